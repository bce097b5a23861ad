-- The refusals by their numbers: no two have one number, and none has that of an accepted call.
-- So two answers that tell the same numbers, and the same beside them, are the same.
use Rattle.std.specs.Prelude.{Result, Ok, Err, Option, Some, None}
use Rattle.std.specs.Result.{IsOk}
use mathlib.Core.Path.{◌≡◌, refl, sym, ap}
use mathlib.Core.List.{List, [], ◌∷◌}
use Prim.Native.Nat.{ℕ}
use lib.ListN.{get_or}
use Rattle.terms.specs.Refusals.{number_of, number_in}
use Rattle.terms.specs.RefusedAt.{number_at, line_at}
use Rattle.terms.specs.declared.refusals.Refusal.{Refusal}
use Rattle.terms.specs.declared.refusals.RefusedAt.{RefusedAt}

-- The refusal with each number, from 0, which is no refusal's.
abbrev table : List (Option Refusal)
table =
    None ∷ Some Refusal.PolicyNotKnown ∷ Some Refusal.SizeNotKnown ∷ Some Refusal.WrongLength ∷ Some Refusal.NotSound
    ∷ Some Refusal.TooManyPages ∷ Some Refusal.BufferTooShort ∷ Some Refusal.SheetTooLong ∷ Some Refusal.NoSuchLine
    ∷ Some Refusal.NotInForm ∷ Some Refusal.NoRecord ∷ Some Refusal.PageTooLarge ∷ []

unfoldable numbered : ℕ → Option Refusal
numbered n = get_or table n None

none_numbered : numbered 0 ≡ None
unfolding numbered
none_numbered = refl

its_number : (refusal : Refusal) → numbered (number_of refusal) ≡ Some refusal
unfolding numbered
its_number Refusal.PolicyNotKnown = refl
its_number Refusal.SizeNotKnown = refl
its_number Refusal.WrongLength = refl
its_number Refusal.NotSound = refl
its_number Refusal.TooManyPages = refl
its_number Refusal.BufferTooShort = refl
its_number Refusal.SheetTooLong = refl
its_number Refusal.NoSuchLine = refl
its_number Refusal.NotInForm = refl
its_number Refusal.NoRecord = refl
its_number Refusal.PageTooLarge = refl

pub number_of_one_to_one : (r s : Refusal) → number_of r ≡ number_of s → r ≡ s
number_of_one_to_one r s same = cc (its_number r, its_number s, same)

pub not_accepted : (r : Refusal) → number_of r ≡ 0 → ⊥
not_accepted r none = cc (its_number r, none_numbered, none)

-- An answer without a number of a refusal's is an accepted one.
pub accepted_is_ok : {A : Type 0} (r : Result A Refusal) → number_in r ≡ 0 → IsOk r
accepted_is_ok (Ok answer) none = refl
accepted_is_ok (Err refusal) none = absurd (not_accepted refusal none)

-- Two answers with one number are equal, if two accepted ones are.
pub same_answer : {A : Type 0} (r s : Result A Refusal) → number_in r ≡ number_in s
    → ((a b : A) → r ≡ Ok a → s ≡ Ok b → a ≡ b) → r ≡ s
same_answer (Ok a) (Ok b) number same = ap Ok (same a b refl refl)
same_answer (Ok a) (Err s) number same = absurd (not_accepted s (sym number))
same_answer (Err r) (Ok b) number same = absurd (not_accepted r number)
same_answer (Err r) (Err s) number same = ap Err (number_of_one_to_one r s number)

-- So with a line.
pub same_answer_at : {A : Type 0} (r s : Result A RefusedAt) → number_at r ≡ number_at s → line_at r ≡ line_at s
    → ((a b : A) → r ≡ Ok a → s ≡ Ok b → a ≡ b) → r ≡ s
same_answer_at (Ok a) (Ok b) number line same = ap Ok (same a b refl refl)
same_answer_at (Ok a) (Err s) number line same = absurd (not_accepted s.refusal (sym number))
same_answer_at (Err r) (Ok b) number line same = absurd (not_accepted r.refusal number)
same_answer_at (Err r) (Err s) number line same =
    let refusal : r.refusal ≡ s.refusal = number_of_one_to_one r.refusal s.refusal number in
    ap Err (λ i. record { refusal = refusal i; line = line i })
