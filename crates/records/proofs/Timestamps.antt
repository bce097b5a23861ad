-- A timestamp by the place of its point: the two parts that the code cuts there, or no point at all.
use Rattle.std.specs.Prelude.{if◌then◌else◌}
use mathlib.Core.Path.{◌≡◌, refl, sym, ap, ◌∙◌}
use mathlib.Core.Bool.{Bool, true, false}
use mathlib.Core.List.{List, []}
use Prim.Native.Nat.{ℕ, ◌+◌, ◌-◌}
use native.Mathlib.Omega.{arith}
use lib.ListN.{take, drop, length-drop, drop_of_length-le}
use lib.Seq.{take_all}
use Rattle.terms.specs.Choice.{∣◌∣}
use Rattle.terms.proofs.Choice.{either}
use Rattle.text.specs.Bytes.{index_of}
use Rattle.traces.specs.Record.{is_integer, point, before_point, after_point, is_timestamp}

module _ (s : List ℕ) (n : ℕ) (place : n ≡ index_of point s) where
  before_is : take n s ≡ before_point s
  before_is = ap (λ (k : ℕ). take k s) place

  -- The second part, cut by its length, as a slice's end is.
  after_is : take (∣ s ∣ - (n + 1)) (drop (n + 1) s) ≡ after_point s
  after_is =
      take_all (∣ s ∣ - (n + 1)) (drop (n + 1) s) (omega (arith, length-drop (n + 1) s))
      ∙ ap (λ (k : ℕ). drop (k + 1) s) place

  pub no_point : n ≡ ∣ s ∣ → false ≡ is_timestamp s
  unfolding is_integer is_timestamp
  no_point none =
      let after : after_point s ≡ [] = drop_of_length-le s {i = index_of point s + 1} (omega arith) in
      either (λ (t : Bool). false ≡ t) (is_integer (before_point s)) (rw after) refl

  -- The first part's test comes to t, and the whole by it.
  by_first : {t : Bool} → is_integer (take n s) ≡ t → is_timestamp s ≡ (if t then is_integer (after_point s) else false)
  unfolding is_timestamp
  by_first is =
      ap (λ (t : Bool). if t then is_integer (after_point s) else false) (sym (ap is_integer before_is) ∙ is)

  pub second_decides : is_integer (take n s) ≡ true
      → is_integer (take (∣ s ∣ - (n + 1)) (drop (n + 1) s)) ≡ is_timestamp s
  second_decides is = ap is_integer after_is ∙ sym (by_first is)

  pub first_fails : is_integer (take n s) ≡ false → false ≡ is_timestamp s
  first_fails isnt = sym (by_first isnt)
