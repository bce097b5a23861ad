-- Whether all words of a list are at most m, word by word; and the flags as words of a list.
-- For `flags_known` and `all_zero`.
use Rattle.std.specs.Prelude.{if◌then◌else◌}
use Rattle.std.specs.List.{list_all, range_with_len}
use mathlib.Core.Path.{◌≡◌, refl, ap}
use mathlib.Core.Bool.{Bool, true, false, ◌&&◌}
use mathlib.Core.List.{List, [], ◌∷◌}
use Prim.Native.Nat.{ℕ, zero, suc, ◌+◌, ◌*◌, ◌≤◌, ◌<◌}
use native.Mathlib.Numerals.{add-one}
use native.Mathlib.Omega.{arith}
use lib.ListN.{length, take, drop, get_or, length-drop}
use lib.Seq.{drop-cons, drop-length, get_or-take, get_or-drop, length-take-le}
use lib.Dec.{leb}
use Rattle.terms.specs.Choice.{all_at_most}
use Rattle.figures.specs.Sound.{flag_words}

both : (b c : Bool) → b && c ≡ (if b then c else false)
both true c = refl
both false c = refl

-- A test of each word that asks whether it is at most m.
pub all_by_test : (m : ℕ) (test : ℕ → Bool) → ((x : ℕ) → test x ≡ leb x m) → (l : List ℕ) → list_all test l ≡ all_at_most m l
all_by_test m test is [] = refl
all_by_test m test is (x ∷ l) = rw (is x, all_by_test m test is l) (both (leb x m) (all_at_most m l))

-- The same of a test by the word's place, from place i on.
pub all_by_place : (m : ℕ) (w : List ℕ) (test : ℕ → Bool) → ((i : ℕ) → i < length w → test i ≡ leb (get_or w i 0) m)
    → (i n : ℕ) → i + n ≡ length w → list_all test (range_with_len i n) ≡ all_at_most m (drop i w)
all_by_place m w test is i zero e = let at : i ≡ length w = omega arith in rw (at, drop-length)
all_by_place m w test is i (suc n) e =
    let inside : i < length w = omega arith in
    let rest = rw add-one at (all_by_place m w test is (i + 1) n (omega arith)) in
    rw (drop-cons w i 0 inside, is i inside, add-one, rest) (both (leb (get_or w i 0) m) (all_at_most m (drop (suc i) w)))

flag_word : (w : List ℕ) (i : ℕ) → get_or (flag_words w) i 0 ≡ get_or w (2 * i + 1) 0
flag_word [] i = refl
flag_word (page ∷ []) i = rw add-one
flag_word (page ∷ flags ∷ w) zero = refl
flag_word (page ∷ flags ∷ w) (suc i) =
    let e : 2 * suc i + 1 ≡ suc (suc (2 * i + 1)) = omega arith in
    rw (e, flag_word w i)

-- The flags of the first n entries.
abbrev pub flags_of : ℕ → List ℕ → List ℕ
flags_of n w = flag_words (take (2 * n) (drop 8 w))

length_flag_words : (n : ℕ) (w : List ℕ) → length w ≡ 2 * n → length (flag_words w) ≡ n
length_flag_words zero [] e = refl
length_flag_words (suc n) [] e = absurd (omega arith)
length_flag_words n (page ∷ []) e = absurd (omega arith)
length_flag_words zero (page ∷ flags ∷ w) e = absurd (omega arith)
length_flag_words (suc n) (page ∷ flags ∷ w) e = ap suc (length_flag_words n w (omega arith))

module _ (n : ℕ) (w : List ℕ) where
  pub length_flags : 8 + 2 * n ≤ length w → length (flags_of n w) ≡ n
  length_flags h =
      length_flag_words n (take (2 * n) (drop 8 w))
      (length-take-le (2 * n) (drop 8 w) (simp length-drop (omega arith)))

  pub flag_at : (i : ℕ) → i < n → get_or (flags_of n w) i 0 ≡ get_or w (8 + 2 * i + 1) 0
  flag_at i h =
      let inside : 2 * i + 1 < 2 * n = omega arith in
      let place : 8 + (2 * i + 1) ≡ 8 + 2 * i + 1 = omega arith in
      rw (flag_word, get_or-take, get_or-drop, place)
