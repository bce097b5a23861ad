-- The answer by the trace: its number and line where it is refused, its pages over the buffer where it is accepted.
use Rattle.std.specs.Prelude.{Ok, Err}
use mathlib.Core.Path.{◌≡◌, refl, ◌∙◌}
use mathlib.Core.List.{List}
use Prim.Native.Nat.{ℕ, ◌≤◌, ◌<◌}
use borrow.Author.Rules.{rules}
use borrow.Author.Tests.{lt-ltb, le-ltb}
use Rattle.terms.specs.Choice.{∣◌∣}
use Rattle.terms.specs.Refusals.{number_of}
use Rattle.terms.specs.declared.refusals.Refusal.{Refusal}
use Rattle.terms.specs.declared.refusals.RefusedAt.{RefusedAt}
use Rattle.sheets.specs.Lines.{lines}
use Rattle.traces.specs.Trace.{Pages, taken, refused_at, pages_from, pages_of}
use Rattle.traces.specs.Refusals.{answer, on_pages}
use Rattle.council.specs.Answers.{amount, size_in, size_of, PagesFilled}
use Rattle.council.specs.Promises.{PagesTaken}

module _ (s : List ℕ) (unit : ℕ) (w : List ℕ) where
  pub short_buffer : {refused : RefusedAt} → ∣ w ∣ < 1000 → refused.refusal ≡ Refusal.BufferTooShort → refused.line ≡ 0
      → PagesTaken s unit w (Err refused) w
  unfolding on_pages
  short_buffer short why at = rw (lt-ltb ∣ w ∣ 1000 short, why, at) (search rules)

  module _ (room : 1000 ≤ ∣ w ∣) where
    pub by_trace : on_pages s unit w ≡ answer (pages_of unit s) w
    unfolding on_pages
    by_trace = rw (le-ltb ∣ w ∣ 1000 room)

    answers_refusal : (refused : RefusedAt) → pages_of unit s ≡ refused_at (number_of refused.refusal) refused.line
        → PagesTaken s unit w (Err refused) w
    answers_refusal refused is = rw (by_trace, is) (search rules)

    pub too-long : {refused : RefusedAt} → 16000 < ∣ s ∣ → refused.refusal ≡ Refusal.SheetTooLong → refused.line ≡ 0
        → PagesTaken s unit w (Err refused) w
    unfolding pages_of
    too-long {refused} long why at = answers_refusal refused (rw (lt-ltb 16000 ∣ s ∣ long, why, at))

    module _ (short : ∣ s ∣ ≤ 16000) where
      by_lines : pages_of unit s ≡ pages_from unit 0 0 (lines s)
      unfolding pages_of
      by_lines = rw (le-ltb 16000 ∣ s ∣ short)

      pub line_refused : (refused : RefusedAt) → size_in (Err refused) ≡ size_of (pages_from unit 0 0 (lines s))
          → PagesTaken s unit w (Err refused) w
      line_refused refused is = answers_refusal refused (by_lines ∙ go (pages_from unit 0 0 (lines s)) is)
        where
          go : (ps : Pages) → size_in (Err refused) ≡ size_of ps → ps ≡ refused_at (number_of refused.refusal) refused.line
          go (taken pages) h = absurd cc
          go (refused_at number line) h = cc

      pub pages_taken : {count : ℕ} {w' : List ℕ} → amount count ≡ size_of (pages_from unit 0 0 (lines s))
          → PagesFilled s unit w w' → PagesTaken s unit w (Ok count) w'
      pages_taken {count} {w'} is filled = go (pages_from unit 0 0 (lines s)) refl is
        where
          go : (ps : Pages) → pages_from unit 0 0 (lines s) ≡ ps → amount count ≡ size_of ps
              → PagesTaken s unit w (Ok count) w'
          go (taken pages) is h = rw (by_trace, by_lines, is) (record {
            number_is = refl;
            line_is = refl;
            count_is = cc;
            words_are = filled pages is;
          })
          go (refused_at number line) is h = absurd cc
