-- The first place of a byte, the length where there is none, as `index_of` has it; the bytes from a place on; and what a
-- byte cuts off that separates others.
use Rattle.std.specs.Prelude.{if◌then◌else◌}
use mathlib.Core.Path.{◌≡◌, refl, ap, ◌∙◌}
use mathlib.Core.Bool.{Bool, true, false}
use mathlib.Core.List.{List, [], ◌∷◌}
use Prim.Native.Nat.{ℕ, suc, ◌+◌, ◌-◌, ◌≤◌, ◌<◌}
use native.Mathlib.Omega.{arith}
use lib.ListN.{take, drop, length-drop}
use lib.Seq.{take_all}
use lib.Dec.{eqb}
use Rattle.text.specs.Bytes.{index_after, index_of}
use Rattle.terms.specs.Choice.{∣◌∣}

pub place_at_most : (x : ℕ) (s : List ℕ) → index_of x s ≤ ∣ s ∣
unfolding index_of
place_at_most x [] = omega arith
place_at_most x (b ∷ s) = go (eqb b x) (place_at_most x s)
  where
    go : (t : Bool) → index_of x s ≤ ∣ s ∣ → index_after t (index_of x s) ≤ suc ∣ s ∣
    go true h = omega arith
    go false h = omega arith

-- The bytes from a place on, as a slice has them, by how many they are.
pub bytes_from : (s : List ℕ) (at : ℕ) → take (∣ s ∣ - at) (drop at s) ≡ drop at s
bytes_from s at = take_all (∣ s ∣ - at) (drop at s) (omega (arith, length-drop at s))

-- CUT AT THE FIRST PLACE

-- Parts of bytes by a byte that separates them, whatever they are: where it comes first, a part is cut off and the
-- others go on behind it; every other byte is one more in front.
module _
    {A : Type 0}
    (separator : ℕ)
    (cut : List ℕ → A → A)
    (behind : ℕ → A → A)
    (parts : List ℕ → A)
    (by_first :
    (b : ℕ) (s : List ℕ) → parts (b ∷ s) ≡ (if eqb b separator then cut [] (parts s) else behind b (parts s)))
    (in_front : (b : ℕ) (l : List ℕ) (rest : A) → behind b (cut l rest) ≡ cut (b ∷ l) rest)
  where
    -- The part of the first n bytes, and the parts of those behind the one at n.
    abbrev pub cut_at : ℕ → List ℕ → A
    cut_at n s = cut (take n s) (parts (drop (n + 1) s))

    cut_later : (b n : ℕ) (s : List ℕ) → behind b (cut_at n s) ≡ cut_at (suc n) (b ∷ s)
    cut_later b n s =
        let next : suc (n + 1) ≡ suc n + 1 = omega arith in
        in_front b (take n s) (parts (drop (n + 1) s))
        ∙ ap (λ (m : ℕ). cut (b ∷ take n s) (parts (drop m (b ∷ s)))) next

    pub cut_first : (s : List ℕ) → index_of separator s < ∣ s ∣ → parts s ≡ cut_at (index_of separator s) s
    unfolding index_of
    cut_first [] some = absurd (omega arith)
    cut_first (b ∷ s) some = by_first b s ∙ by_test (eqb b separator) some (cut_first s)
      where
        n : ℕ
        n = index_of separator s

        by_test : (t : Bool) → index_after t n < suc ∣ s ∣ → (n < ∣ s ∣ → parts s ≡ cut_at n s)
            → (if t then cut [] (parts s) else behind b (parts s)) ≡ cut_at (index_after t n) (b ∷ s)
        by_test true some later = refl
        by_test false some later = ap (behind b) (later (omega arith)) ∙ cut_later b n s
