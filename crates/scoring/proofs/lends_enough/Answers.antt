-- The tests in their order are the definition's.
use Rattle.std.proofs.Common.{le-leb}
use Rattle.std.proofs.lemmas.Bool.{lt-leb}
use Rattle.scoring.specs.Refusals.{enough}
use Rattle.scoring.proofs.lends_enough.Goals as goal

pub returns-then-answers-ge-ANSWERS : goal.returns-then-answers-ge-ANSWERS
unfolding enough
returns-then-answers-ge-ANSWERS c =
    let pages = c.if-pages-ge-MOST_PAGES.true in
    let dir = c.if-dir-ge-WORDS.true in
    simp (le-leb _ _ pages, le-leb _ _ dir, le-leb _ _ c.if-answers-ge-ANSWERS.true)

pub returns-else-answers-ge-ANSWERS : goal.returns-else-answers-ge-ANSWERS
unfolding enough
returns-else-answers-ge-ANSWERS c =
    let pages = c.if-pages-ge-MOST_PAGES.true in
    let dir = c.if-dir-ge-WORDS.true in
    simp (le-leb _ _ pages, le-leb _ _ dir, lt-leb _ _ c.if-answers-ge-ANSWERS.false)

pub returns-else-dir-ge-WORDS : goal.returns-else-dir-ge-WORDS
unfolding enough
returns-else-dir-ge-WORDS c = simp (le-leb _ _ c.if-pages-ge-MOST_PAGES.true, lt-leb _ _ c.if-dir-ge-WORDS.false)

pub returns-else-pages-ge-MOST_PAGES : goal.returns-else-pages-ge-MOST_PAGES
unfolding enough
returns-else-pages-ge-MOST_PAGES c = simp (lt-leb _ _ c.if-pages-ge-MOST_PAGES.false)
