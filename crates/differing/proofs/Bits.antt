-- Bits of words: two words joined have the bits of both, and a word that becomes one with more bits loses none.
-- For `set`, which joins one word with a single bit, and for the test of a bit.
use mathlib.Core.Path.{◌≡◌, refl, ap, ◌∙◌}
use mathlib.Core.Bool.{Bool, true, false}
use mathlib.Core.List.{List}
use Prim.Native.Nat.{ℕ, zero, suc, ◌*◌, ◌/◌, ◌%◌, ◌^◌, ◌<◌}
use native.Mathlib.Omega.{arith}
use lib.Dec.{eqb}
use borrow.Author.Tests.{eqb-true, eqb-false}
use lib.Bits.{bit_or, or_shr, or_mod, or_comm}
use lib.Pow.{shl_exact, shl-shr}
use lib.ListN.{length, get_or, set, length-set}
use lib.Seq.{get_or-set_same, get_or-set_other}
use Rattle.differing.specs.Seen.{bit_at, BitsKept}

one_or : (b : ℕ) → b < 2 → bit_or 1 b ≡ 1
one_or zero h = refl
one_or (suc zero) h = refl
one_or (suc (suc b)) h = absurd (omega arith)

-- A bit that either word has is one of the two joined.
pub or_left : (a b k : ℕ) → a / 2 ^ k % 2 ≡ 1 → bit_or a b / 2 ^ k % 2 ≡ 1
or_left a b k is =
    let a' = a / 2 ^ k in
    let b' = b / 2 ^ k in
    ap (λ (n : ℕ). n % 2) (or_shr a b k)
    ∙ or_mod a' b' 1
    ∙ ap (λ (n : ℕ). bit_or n (b' % 2)) is
    ∙ one_or (b' % 2) (omega arith)

pub or_right : (a b k : ℕ) → b / 2 ^ k % 2 ≡ 1 → bit_or a b / 2 ^ k % 2 ≡ 1
or_right a b k is = ap (λ (n : ℕ). n / 2 ^ k % 2) (or_comm a b) ∙ or_left b a k is

-- A 1 shifted by k, in a word of 32 bits.
pub one_shifted : (k : ℕ) → k < 32 → 1 * 2 ^ k % 4294967296 / 2 ^ k % 2 ≡ 1
one_shifted k short =
    ap (λ (n : ℕ). n / 2 ^ k % 2) (shl_exact 1 k 32 (omega arith) (omega arith)) ∙ ap (λ (n : ℕ). n % 2) (shl-shr 1 k)

-- The word with the place's bit becomes another that has it, and all that it had.
module _ (seen : List ℕ) (place word : ℕ) (inside : place / 32 < length seen)
    (more : (k : ℕ) → get_or seen (place / 32) 0 / 2 ^ k % 2 ≡ 1 → word / 2 ^ k % 2 ≡ 1)
    (this : word / 2 ^ (place % 32) % 2 ≡ 1) where
  abbrev stored : List ℕ
  stored = set seen (place / 32) word

  pub bit-set : (bit_at stored place ≡ 1) × BitsKept seen stored
  bit-set = (
    rw (get_or-set_same seen (place / 32) word 0 inside) this,
    record {
      as_many = length-set seen (place / 32) word;
      still_set = λ other is. go other is (eqb (other / 32) (place / 32)) refl;
    },
  )
    where
      go : (other : ℕ) → bit_at seen other ≡ 1 → (b : Bool) → eqb (other / 32) (place / 32) ≡ b → bit_at stored other ≡ 1
      go other is true e =
          let same = eqb-true (other / 32) (place / 32) e in
          rw (same, get_or-set_same seen (place / 32) word 0 inside) (more (other % 32) (rw (← same) is))
      go other is false e =
          rw (get_or-set_other seen (place / 32) (other / 32) word 0 (eqb-false (other / 32) (place / 32) e)) is
