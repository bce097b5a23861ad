-- The numbers of a fresh directory and of a check, refusal by refusal in the order of document 01.
-- And what the check accepts.
use Rattle.std.specs.Prelude.{if◌then◌else◌, Ok, Err}
use mathlib.Core.Path.{◌≡◌, refl, sym}
use mathlib.Core.Bool.{Bool, true, false, not}
use mathlib.Core.List.{List}
use Prim.Native.Nat.{ℕ, ◌+◌, ◌-◌, ◌*◌, ◌≤◌, ◌<◌}
use native.Mathlib.Omega.{arith}
use lib.ListN.{get_or, set, replicate, replicate-append-replicate}
use lib.Dec.{ltb}
use borrow.Author.Tests.{lt-ltb, le-ltb, eq-eqb, ne_eqb}
use Rattle.terms.specs.Choice.{∣◌∣}
use Rattle.terms.specs.declared.refusals.Refusal.{Refusal}
use Rattle.terms.specs.Limits.{known_size}
use Rattle.terms.specs.Policies.{known_policy}
use Rattle.figures.specs.Directory.{fresh}
use Rattle.figures.specs.Words.{encode, decode, size}
use Rattle.figures.specs.Sound.{exact_length, sound}
use Rattle.figures.specs.Demands.{Sound}
use Rattle.figures.specs.Refusals.{fresh_number, check_number, on_fresh, on_check}
use Rattle.directory.specs.Promises.{Freshened, Checked}
use Rattle.directory.specs.Ready.{Ready}
use Rattle.directory.proofs.Serving.{ready, decoded_sound}

module _ (w : List ℕ) where
  pub check_short : ∣ w ∣ < 8 → Checked w (Err Refusal.WrongLength)
  unfolding on_check check_number
  check_short less = record { number_is = rw (lt-ltb ∣ w ∣ 8 less) }

  module _ (eight : 8 ≤ ∣ w ∣) where
    pub check_policy : known_policy (get_or w 0 0) ≡ false → Checked w (Err Refusal.PolicyNotKnown)
    unfolding on_check check_number
    check_policy not = record { number_is = rw (le-ltb ∣ w ∣ 8 eight, not) }

    module _ (policy : known_policy (get_or w 0 0) ≡ true) where
      pub check_size : known_size (size w) ≡ false → Checked w (Err Refusal.SizeNotKnown)
      unfolding on_check check_number
      check_size not = record { number_is = rw (le-ltb ∣ w ∣ 8 eight, policy, not) }

      module _ (sized : known_size (size w) ≡ true) where
        pub check_length : (∣ w ∣ ≡ 8 + 4 * size w → ⊥) → Checked w (Err Refusal.WrongLength)
        unfolding on_check check_number
        check_length not =
            record { number_is = rw (le-ltb ∣ w ∣ 8 eight, policy, sized, ne_eqb ∣ w ∣ (8 + 4 * size w) not) }

        module _ (exact : ∣ w ∣ ≡ 8 + 4 * size w) where
          pub check_unsound : sound w ≡ false → Checked w (Err Refusal.NotSound)
          unfolding on_check check_number
          check_unsound not =
              record { number_is = rw (le-ltb ∣ w ∣ 8 eight, policy, sized, eq-eqb ∣ w ∣ (8 + 4 * size w) exact, not) }

          pub check_sound : sound w ≡ true → Checked w (Ok tt)
          unfolding on_check check_number
          check_sound is =
              record { number_is = rw (le-ltb ∣ w ∣ 8 eight, policy, sized, eq-eqb ∣ w ∣ (8 + 4 * size w) exact, is) }

-- The check accepts only sound words,
pub accepted_sound : (w : List ℕ) → (on_check w).number ≡ 0 → sound w ≡ true
unfolding on_check check_number
accepted_sound w = go (ltb ∣ w ∣ 8) (known_policy (get_or w 0 0)) (known_size (size w)) (exact_length w) (sound w)
  where
    go : (short policy sized exact sounds : Bool)
        → ◌≡◌ {A = ℕ}
        (if short then 3 else if not policy then 1 else if not sized then 2
        else if not exact then 3 else if not sounds then 4 else 0) 0
        → sounds ≡ true
    go true policy sized exact sounds is = absurd (omega arith)
    go false false sized exact sounds is = absurd (omega arith)
    go false true false exact sounds is = absurd (omega arith)
    go false true true false sounds is = absurd (omega arith)
    go false true true true false is = absurd (omega arith)
    go false true true true true is = refl

-- and what it accepts may be asked for a page.
pub accepted_ready : (w : List ℕ) → Checked w (Ok tt) → Ready w
accepted_ready w checked = ready w (accepted_sound w (sym checked.number_is))

-- What it accepts holds a sound one.
pub accepted_directory : (w : List ℕ) → check_number w ≡ 0 → Sound (decode w)
unfolding on_check
accepted_directory w none = decoded_sound w (accepted_sound w none)

-- Zeros everywhere but words 0 and 1 are the words of the fresh directory.
pub fresh_words : (policy c : ℕ) → set (set (replicate (8 + 4 * c) 0) 0 policy) 1 c ≡ encode (fresh policy c)
fresh_words policy c =
    let none : 4 * c - 0 ≡ 4 * c = omega arith in
    rw (← replicate-append-replicate {A = ℕ} 8 (4 * c) 0, none)

module _ (policy c : ℕ) (w : List ℕ) where
  pub fresh_policy : known_policy policy ≡ false → Freshened policy c w (Err Refusal.PolicyNotKnown) w
  unfolding on_fresh fresh_number
  fresh_policy not = record { number_is = rw not; words_are = rw not }

  module _ (known : known_policy policy ≡ true) where
    pub fresh_size : known_size c ≡ false → Freshened policy c w (Err Refusal.SizeNotKnown) w
    unfolding on_fresh fresh_number
    fresh_size not = record { number_is = rw (known, not); words_are = rw (known, not) }

    module _ (sized : known_size c ≡ true) where
      pub fresh_length : (∣ w ∣ ≡ 8 + 4 * c → ⊥) → Freshened policy c w (Err Refusal.WrongLength) w
      unfolding on_fresh fresh_number
      fresh_length not =
          let test = ne_eqb ∣ w ∣ (8 + 4 * c) not in
          record { number_is = rw (known, sized, test); words_are = rw (known, sized, test) }

      pub fresh_accepted : ∣ w ∣ ≡ 8 + 4 * c → (w' : List ℕ) → w' ≡ encode (fresh policy c) → Freshened policy c w (Ok tt) w'
      unfolding on_fresh fresh_number
      fresh_accepted exact w' is =
          let test = eq-eqb ∣ w ∣ (8 + 4 * c) exact in
          record { number_is = rw (known, sized, test); words_are = rw (known, sized, test) is }

-- The returns of `check` and of `fresh`, for the search.
pub ruleset checks = (check_short, check_policy, check_size, check_length, check_unsound, check_sound)

pub ruleset freshens = (fresh_policy, fresh_size, fresh_length, fresh_words, fresh_accepted)
