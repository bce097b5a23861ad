-- What the promises say of the words that an accepted call leaves, each beside the sentence that asks for it; behind
-- it, in brackets, the file of proofs/ that proves it.
use Rattle.std.specs.Prelude.{◌≡◌, true, ◌||◌, List, [], ◌∷◌, ◌++◌, ℕ, Result}
use Rattle.terms.specs.declared.refusals.Refusal.{Refusal}
use Rattle.terms.specs.Refusals.{number_in}
use Rattle.figures.specs.Entry.{has}
use Rattle.figures.specs.Words.{decode}
use Rattle.figures.specs.Sound.{sound}
use Rattle.tally.specs.declared.Tally.{Tally}
use Rattle.directory.specs.declared.Answer.{Answer}
use Rattle.directory.specs.Promises.{Requested, Replayed}

-- The words of a sound directory in which the page is in T1 or T2.
pub record SoundWith (page : ℕ) (w : List ℕ) : Type 0 where
  pub is_sound : sound w ≡ true
  pub page_cached : has page (decode w).t1 || has page (decode w).t2 ≡ true

-- "Every accepted request leaves a sound directory in which the requested page is in T1 or T2." [Kept]
abbrev pub RequestLeavesPage : Type 0
RequestLeavesPage =
    (w : List ℕ) (x : ℕ) (r : Result Answer Refusal) (w' : List ℕ) → Requested w x r w' → number_in r ≡ 0 → SoundWith x w'

-- So an accepted run leaves a sound directory, and the last page of its trace is in T1 or T2. [Kept]
abbrev pub RunLeavesSound : Type 0
RunLeavesSound =
    (w trace answers : List ℕ) (r : Result Tally Refusal) (w' answers' : List ℕ)
    → Replayed w trace answers r w' answers' → number_in r ≡ 0 → sound w' ≡ true

abbrev pub RunLeavesLastPage : Type 0
RunLeavesLastPage =
    (w trace : List ℕ) (x : ℕ) (answers : List ℕ) (r : Result Tally Refusal) (w' answers' : List ℕ)
    → Replayed w (trace ++ (x ∷ [])) answers r w' answers' → number_in r ≡ 0 → SoundWith x w'
