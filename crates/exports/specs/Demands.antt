-- What the promises for C say of the words that an accepted call leaves, as directory/specs/Demands says it of the
-- directory's answers. [Kept]
use Rattle.std.specs.Prelude.{◌≡◌, true, List, [], ◌∷◌, ◌++◌, ℕ}
use Rattle.figures.specs.Sound.{sound}
use Rattle.directory.specs.Demands.{SoundWith}
use Rattle.exports.specs.declared.Answer.{Answer}
use Rattle.exports.specs.declared.Ran.{Ran}
use Rattle.exports.specs.Promises.{Requested, Replayed}

abbrev pub RequestLeavesPage : Type 0
RequestLeavesPage =
    (w : List ℕ) (x : ℕ) (r : Answer) (w' : List ℕ) → Requested w x r w' → r.number ≡ 0 → SoundWith x w'

abbrev pub RunLeavesSound : Type 0
RunLeavesSound =
    (w trace answers : List ℕ) (r : Ran) (w' answers' : List ℕ)
    → Replayed w trace answers r w' answers' → r.number ≡ 0 → sound w' ≡ true

abbrev pub RunLeavesLastPage : Type 0
RunLeavesLastPage =
    (w trace : List ℕ) (x : ℕ) (answers : List ℕ) (r : Ran) (w' answers' : List ℕ)
    → Replayed w (trace ++ (x ∷ [])) answers r w' answers' → r.number ≡ 0 → SoundWith x w'
