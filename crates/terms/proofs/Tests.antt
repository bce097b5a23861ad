-- Tests read as facts: `simp reads` turns a list of tests that all hold into a product of facts, and back.
-- A test by `||` is not read; split it by cases. At the end, two tests that agree.
use Rattle.std.specs.Prelude.{if◌then◌else◌}
use mathlib.Core.Path.{◌≡◌, refl, sym}
use mathlib.Core.Bool.{Bool, true, false, not, false≢true, and-eq-true_iff}
use mathlib.Core.Logic.{◌↔◌}
use Prim.Native.Nat.{ℕ, ◌≤◌, ◌<◌}
use lib.Dec.{eqb, leb, ltb}
use borrow.Author.Tests.{ltb-true, lt-ltb, leb-true, le-leb, eqb-true, eq-eqb}

pub leb_iff : (a b : ℕ) → (leb a b ≡ true) ↔ (a ≤ b)
leb_iff a b = (leb-true a b, le-leb a b)

pub ltb_iff : (a b : ℕ) → (ltb a b ≡ true) ↔ (a < b)
ltb_iff a b = (ltb-true a b, lt-ltb a b)

pub eqb_iff : (a b : ℕ) → (eqb a b ≡ true) ↔ (a ≡ b)
eqb_iff a b = (eqb-true a b, eq-eqb a b)

pub both_iff : (a b : Bool) → ((if a then b else false) ≡ true) ↔ ((a ≡ true) × (b ≡ true))
both_iff true b = (λ h. (refl, h), λ h. h.1)
both_iff false b = (λ h. absurd (false≢true h), λ h. h.0)

pub when_iff : (a b : Bool) → ((if a then b else true) ≡ true) ↔ (a ≡ true → b ≡ true)
when_iff true b = (λ h i. h, λ h. h refl)
when_iff false b = (λ h i. absurd (false≢true i), λ h. refl)

pub unless_iff : (a b : Bool) → ((if a then false else b) ≡ true) ↔ ((a ≡ false) × (b ≡ true))
unless_iff true b = (λ h. absurd (false≢true h), λ h. sym h.0)
unless_iff false b = (λ h. (refl, h), λ h. h.1)

pub ruleset reads = (both_iff, when_iff, unless_iff, and-eq-true_iff, leb_iff, ltb_iff, eqb_iff)

-- Two tests of which each holds where the other does.
pub agree : (a b : Bool) → (a ≡ true → b ≡ true) → (b ≡ true → a ≡ true) → a ≡ b
agree true b h i = sym (h refl)
agree false true h i = i refl
agree false false h i = refl
