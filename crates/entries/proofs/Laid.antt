-- The words of a directory as three parts: the eight in front, those of all listed entries, the zeros.
-- What a change of list i, 0 to 3, does to each part, whichever list it is.
use mathlib.Core.Path.{◌≡◌, refl, sym, ap, ◌∙◌, subst}
use mathlib.Core.List.{List, [], ◌∷◌, ◌++◌, append_assoc, append-nil}
use Prim.Native.Nat.{ℕ, zero, suc, ◌+◌, ◌-◌, ◌*◌, ◌≤◌}
use native.Mathlib.Omega.{arith}
use lib.ListN.{get_or, set, take, drop, replicate, length-append, take-append-drop, get_or-append}
use lib.Seq.{take_at, drop_at, get_or-set_other}
use Rattle.terms.specs.Choice.{∣◌∣}
use Rattle.figures.specs.Entry.{Entry}
use Rattle.figures.specs.Directory.{Directory, list_of, with_p, with_list, to_tail, cached, remembered, listed}
use Rattle.figures.specs.Words.{words, zeros, encode}
use Rattle.laws.proofs.Encoding.{words_append}
use Rattle.entries.specs.Holds.{Holds}
use Rattle.entries.specs.Stretches.{name_of, start_of}
use Rattle.entries.proofs.Starts.{starts_in_order, starts_within}

-- The eight words in front.
abbrev pub heads : Directory → List ℕ
heads d = d.policy ∷ d.c ∷ d.p ∷ d.q ∷ ∣ d.t1 ∣ ∷ ∣ d.t2 ∣ ∷ ∣ d.b1 ∣ ∷ ∣ d.b2 ∣ ∷ []

pub laid : (d : Directory) → encode d ≡ heads d ++ (words (listed d) ++ zeros d)
laid d = simp (words_append, append_assoc)

-- What the words in front say of the directory that they are of, in numbers that omega reads.
pub record Header (d : Directory) (w : List ℕ) : Type 0 where
  pub policy : get_or w 0 0 ≡ d.policy
  pub c : get_or w 1 0 ≡ d.c
  pub p : get_or w 2 0 ≡ d.p
  pub q : get_or w 3 0 ≡ d.q
  pub t1 : get_or w 4 0 ≡ ∣ d.t1 ∣
  pub t2 : get_or w 5 0 ≡ ∣ d.t2 ∣
  pub b1 : get_or w 6 0 ≡ ∣ d.b1 ∣
  pub b2 : get_or w 7 0 ≡ ∣ d.b2 ∣

pub header : (d : Directory) (w : List ℕ) → Holds d w → Header d w
header d w is =
    subst (Header d) is
    (record { policy = refl; c = refl; p = refl; q = refl; t1 = refl; t2 = refl; b1 = refl; b2 = refl })

-- The words with another target.
pub with-p : (d : Directory) {w : List ℕ} {p p' : ℕ} → Holds d w → p ≡ p' → Holds (with_p p' d) (set w 2 p)
with-p d {w} {p} is same = ap (λ (n : ℕ). encode (with_p n d)) (sym same) ∙ ap (λ (l : List ℕ). set l 2 p) is

pub length_listed : (d : Directory) → ∣ listed d ∣ ≡ cached d + remembered d
length_listed d = simp length-append (omega arith)

pub zeros_after : (d : Directory) → zeros d ≡ replicate (4 * d.c - 2 * ∣ listed d ∣) 0
zeros_after d = rw (length_listed d)

-- How many entries stand before list i.
abbrev pub place : ℕ → Directory → ℕ
place zero d = 0
place (suc zero) d = ∣ d.t1 ∣
place (suc (suc zero)) d = ∣ d.t1 ∣ + ∣ d.t2 ∣
place (suc (suc (suc zero))) d = ∣ d.t1 ∣ + ∣ d.t2 ∣ + ∣ d.b1 ∣
place (suc (suc (suc (suc i)))) d = cached d + remembered d

starts : (i : ℕ) (d : Directory) → start_of i (encode d) ≡ 8 + 2 * place i d
starts zero d = refl
starts (suc zero) d = refl
starts (suc (suc zero)) d = refl
starts (suc (suc (suc zero))) d = refl
starts (suc (suc (suc (suc i)))) d = refl

pub start_of_place : (i : ℕ) (d : Directory) (w : List ℕ) → Holds d w → start_of i w ≡ 8 + 2 * place i d
start_of_place i d w is = ap (λ (l : List ℕ). start_of i l) (sym is) ∙ starts i d

pub places_in_order : (i j : ℕ) (d : Directory) → i ≤ j → place i d ≤ place j d
places_in_order i j d h = omega (arith, starts i d, starts j d, starts_in_order (encode d) i j h)

pub places_within : (i : ℕ) (d : Directory) → place i d ≤ ∣ listed d ∣
places_within i d = omega (arith, starts i d, starts_within (encode d) i, length_listed d)

-- An entry put in behind n others.
abbrev pub insert : ℕ → Entry → List Entry → List Entry
insert n e l = take n l ++ (e ∷ drop n l)

put_in : (n : ℕ) (e : Entry) (A C l l' : List Entry) → ∣ A ∣ ≡ n → l ≡ A ++ (e ∷ C) → l' ≡ A ++ C → l ≡ insert n e l'
put_in n e A C l l' h i j = i ∙ sym (rw (j, take_at A C n h, drop_at A C n h))

pub length_insert : (n : ℕ) (e : Entry) (l : List Entry) → ∣ insert n e l ∣ ≡ ∣ l ∣ + 1
length_insert n e l =
    omega (arith, length-append (take n l) (e ∷ drop n l), simp length-append at (ap ∣◌∣ (take-append-drop n l)))

-- List i, and the directory with another one in its place.
pub length_in_heads : (i : ℕ) (d : Directory) → i ≤ 3 → get_or (heads d) (4 + i) 0 ≡ ∣ list_of (name_of i) d ∣
length_in_heads zero d h = refl
length_in_heads (suc zero) d h = refl
length_in_heads (suc (suc zero)) d h = refl
length_in_heads (suc (suc (suc zero))) d h = refl
length_in_heads (suc (suc (suc (suc i)))) d h = absurd (omega arith)

pub heads_with : (i : ℕ) (l : List Entry) (d : Directory) → i ≤ 3
    → heads (with_list (name_of i) l d) ≡ set (heads d) (4 + i) ∣ l ∣
heads_with zero l d h = refl
heads_with (suc zero) l d h = refl
heads_with (suc (suc zero)) l d h = refl
heads_with (suc (suc (suc zero))) l d h = refl
heads_with (suc (suc (suc (suc i)))) l d h = absurd (omega arith)

pub list_with : (i : ℕ) (l : List Entry) (d : Directory) → list_of (name_of i) (with_list (name_of i) l d) ≡ l
list_with zero l d = refl
list_with (suc zero) l d = refl
list_with (suc (suc zero)) l d = refl
list_with (suc (suc (suc i))) l d = refl

with_its_own : (i : ℕ) (d : Directory) → with_list (name_of i) (list_of (name_of i) d) d ≡ d
with_its_own zero d = refl
with_its_own (suc zero) d = refl
with_its_own (suc (suc zero)) d = refl
with_its_own (suc (suc (suc i))) d = refl

pub size_with : (i : ℕ) (l : List Entry) (d : Directory) → (with_list (name_of i) l d).c ≡ d.c
size_with zero l d = refl
size_with (suc zero) l d = refl
size_with (suc (suc zero)) l d = refl
size_with (suc (suc (suc i))) l d = refl

pub place_next : (i : ℕ) (d : Directory) → i ≤ 3 → place (i + 1) d ≡ place i d + ∣ list_of (name_of i) d ∣
place_next zero d h = omega arith
place_next (suc zero) d h = omega arith
place_next (suc (suc zero)) d h = omega arith
place_next (suc (suc (suc zero))) d h = omega arith
place_next (suc (suc (suc (suc i)))) d h = absurd (omega arith)

pub length_of_list : (i : ℕ) (d : Directory) (w : List ℕ) → Holds d w → i ≤ 3
    → get_or w (4 + i) 0 ≡ ∣ list_of (name_of i) d ∣
length_of_list i d w is h =
    ap (λ (l : List ℕ). get_or l (4 + i) 0) (sym is)
    ∙ get_or-append (heads d) (drop 8 (encode d)) 0 (4 + i) (omega arith)
    ∙ length_in_heads i d h

pub length_of_other : (i j : ℕ) (l : List Entry) (d : Directory) → i ≤ 3 → j ≤ 3 → (j ≡ i → ⊥)
    → ∣ list_of (name_of j) (with_list (name_of i) l d) ∣ ≡ ∣ list_of (name_of j) d ∣
length_of_other i j l d h k other =
    sym (length_in_heads j (with_list (name_of i) l d) k)
    ∙ ap (λ (w : List ℕ). get_or w (4 + j) 0) (heads_with i l d h)
    ∙ get_or-set_other (heads d) (4 + i) (4 + j) ∣ l ∣ 0 (λ e. other (omega arith))
    ∙ length_in_heads j d k

pub place_behind : (i j : ℕ) (l : List Entry) (d : Directory) → i ≤ 1 → i ≤ j → j ≤ 3
    → place (j + 1) (with_list (name_of i) l d) + ∣ list_of (name_of i) d ∣ ≡ place (j + 1) d + ∣ l ∣
place_behind zero zero l d g h k = omega arith
place_behind zero (suc zero) l d g h k = omega arith
place_behind zero (suc (suc zero)) l d g h k = omega arith
place_behind zero (suc (suc (suc zero))) l d g h k = omega arith
place_behind zero (suc (suc (suc (suc j)))) l d g h k = absurd (omega arith)
place_behind (suc zero) zero l d g h k = absurd (omega arith)
place_behind (suc zero) (suc zero) l d g h k = omega arith
place_behind (suc zero) (suc (suc zero)) l d g h k = omega arith
place_behind (suc zero) (suc (suc (suc zero))) l d g h k = omega arith
place_behind (suc zero) (suc (suc (suc (suc j)))) l d g h k = absurd (omega arith)
place_behind (suc (suc i)) j l d g h k = absurd (omega arith)

pub place_before : (i j : ℕ) (l : List Entry) (d : Directory) → i ≤ 1 → 2 ≤ j
    → place (i + 1) (with_list (name_of j) l d) ≡ place (i + 1) d
place_before zero zero l d h k = absurd (omega arith)
place_before zero (suc zero) l d h k = absurd (omega arith)
place_before zero (suc (suc zero)) l d h k = refl
place_before zero (suc (suc (suc j))) l d h k = refl
place_before (suc zero) zero l d h k = absurd (omega arith)
place_before (suc zero) (suc zero) l d h k = absurd (omega arith)
place_before (suc zero) (suc (suc zero)) l d h k = refl
place_before (suc zero) (suc (suc (suc j))) l d h k = refl
place_before (suc (suc i)) j l d h k = absurd (omega arith)

-- One entry of list i among all listed.
module _ (e : Entry) (a b : List Entry) (d : Directory) where
  listed_with : (i : ℕ) → i ≤ 3
      → listed (with_list (name_of i) (a ++ (e ∷ b)) d)
      ≡ insert (place i d + ∣ a ∣) e (listed (with_list (name_of i) (a ++ b) d))
  listed_with zero h =
      put_in (place 0 d + ∣ a ∣) e a (b ++ (d.t2 ++ (d.b1 ++ d.b2))) _ _ (omega arith)
      (simp append_assoc) (simp append_assoc)
  listed_with (suc zero) h =
      put_in (place 1 d + ∣ a ∣) e (d.t1 ++ a) (b ++ (d.b1 ++ d.b2)) _ _ (simp length-append)
      (simp append_assoc) (simp append_assoc)
  listed_with (suc (suc zero)) h =
      put_in (place 2 d + ∣ a ∣) e (d.t1 ++ (d.t2 ++ a)) (b ++ d.b2) _ _ (simp length-append (omega arith))
      (simp append_assoc) (simp append_assoc)
  listed_with (suc (suc (suc zero))) h =
      put_in (place 3 d + ∣ a ∣) e (d.t1 ++ (d.t2 ++ (d.b1 ++ a))) b _ _ (simp length-append (omega arith))
      (simp append_assoc) (simp append_assoc)
  listed_with (suc (suc (suc (suc i)))) h = absurd (omega arith)

pub listed_around : (i : ℕ) (e : Entry) (a b : List Entry) (d : Directory) → i ≤ 3 → list_of (name_of i) d ≡ a ++ (e ∷ b)
    → listed d ≡ insert (place i d + ∣ a ∣) e (listed (with_list (name_of i) (a ++ b) d))
listed_around i e a b d h is =
    ap listed (sym (with_its_own i d))
    ∙ ap (λ (l : List Entry). listed (with_list (name_of i) l d)) is
    ∙ listed_with e a b d i h

pub listed_tail : (i : ℕ) (e : Entry) (d : Directory) → i ≤ 3
    → listed (to_tail (name_of i) e d) ≡ insert (place (i + 1) d) e (listed d)
listed_tail i e d h =
    listed_with e (list_of (name_of i) d) [] d i h
    ∙ rw (append-nil, with_its_own i d, place_next i d h)
