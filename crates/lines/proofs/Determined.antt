-- Two outcomes that a promise allows are equal: of the look-up, the refusal, or the part by its place and its bytes.
-- The place is the block and the offset; a part's ghost name is of the logic, and nothing that a program can see.
use Rattle.std.specs.Prelude.{Option, Result, Ok, Err}
use mathlib.Core.Path.{◌≡◌, sym, ◌∙◌}
use mathlib.Core.List.{List}
use Prim.Native.Nat.{ℕ}
use denote.Ref.{Bor}
use Rattle.terms.specs.declared.refusals.Refusal.{Refusal}
use Rattle.terms.proofs.Numbers.{number_of_one_to_one, not_accepted}
use Rattle.lines.specs.Cursor.{line_at}
use Rattle.lines.specs.Stretch.{Stretch, LookedUp}

pub line_determined : (s : List ℕ) (at : ℕ) {r r' : Option ℕ} → r ≡ line_at s at → r' ≡ line_at s at → r ≡ r'
line_determined s at a b = a ∙ sym b

pub stretch_determined : {s : Bor (List ℕ)} {start stop : ℕ} {r r' : Bor (List ℕ)}
    → Stretch s start stop r → Stretch s start stop r' → (r.ref_ptr ≡ r'.ref_ptr) × (r.now ≡ r'.now)
stretch_determined a b =
    let block = a.same_block ∙ sym b.same_block in
    let place = a.place_is ∙ sym b.place_is in (λ i. (block i, place i), a.bytes_are ∙ sym b.bytes_are)

-- The same refusal, or parts of one place and of the same bytes.
abbrev pub SameOutcome : Result (Bor (List ℕ)) Refusal → Result (Bor (List ℕ)) Refusal → Type 0
SameOutcome (Ok part) (Ok part') = (part.ref_ptr ≡ part'.ref_ptr) × (part.now ≡ part'.now)
SameOutcome (Ok part) (Err refusal) = ⊥
SameOutcome (Err refusal) (Ok part) = ⊥
SameOutcome (Err refusal) (Err refusal') = refusal ≡ refusal'

pub look_up_determined : {s : Bor (List ℕ)} {line : ℕ} (r r' : Result (Bor (List ℕ)) Refusal)
    → LookedUp s line r → LookedUp s line r' → SameOutcome r r'
look_up_determined (Ok part) (Ok part') a b = stretch_determined a.part_is b.part_is
look_up_determined (Ok part) (Err refusal) a b = not_accepted refusal (b.number_is ∙ sym a.number_is)
look_up_determined (Err refusal) (Ok part) a b = not_accepted refusal (a.number_is ∙ sym b.number_is)
look_up_determined (Err refusal) (Err refusal') a b =
    number_of_one_to_one refusal refusal' (a.number_is ∙ sym b.number_is)
