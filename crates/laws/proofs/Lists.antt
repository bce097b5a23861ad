-- What a list of entries counts for: at a tail, without a page, with a page moved to the tail or its bit set, without
-- its head.
-- Each law is over any count, so that sizes, bits, filters and pages are counted by the same ones.
use Rattle.std.specs.Prelude.{if◌then◌else◌}
use mathlib.Core.Path.{◌≡◌, refl, ap, ◌∙◌}
use mathlib.Core.Bool.{Bool, true, false, true≢false, false≢true}
use mathlib.Core.List.{List, [], ◌∷◌, ◌++◌}
use Prim.Native.Nat.{ℕ, suc, ◌+◌, ◌-◌, ◌*◌, ◌≤◌}
use native.Mathlib.Omega.{arith}
use lib.ListN.{length-append}
use lib.Dec.{eqb}
use borrow.Author.Tests.{eq-eqb}
use Rattle.terms.specs.Choice.{∣◌∣}
use Rattle.terms.proofs.Choice.{either}
use Rattle.figures.specs.Entry.{Entry, Filter, S, L, marked, bits, short_of, long_of, short, long}
use Rattle.figures.specs.Entry.{total, has, mark, without, only, drop_head}

-- 1 where the entry is for page x.
abbrev pub is : ℕ → Entry → ℕ
is x e = if eqb e.page x then 1 else 0

-- A list with a head.
pub record HasHead (l : List Entry) : Type 0 where
  pub head : Entry
  pub rest : List Entry
  pub front : l ≡ head ∷ rest
  pub rest_is : rest ≡ drop_head l

pub has_head : (l : List Entry) → 1 ≤ ∣ l ∣ → HasHead l
has_head [] h = absurd (omega arith)
has_head (e ∷ es) h = record { head = e; rest = es; front = refl; rest_is = refl }

pub empty : (l : List Entry) → ∣ l ∣ ≡ 0 → l ≡ []
empty [] none = refl
empty (e ∷ l) none = absurd (omega arith)

pub length_tail : (l : List Entry) (e : Entry) → ∣ l ++ (e ∷ []) ∣ ≡ ∣ l ∣ + 1
length_tail l e = length-append l (e ∷ []) ∙ omega arith

-- A size is a count of ones.
abbrev pub one : Entry → ℕ
one e = 1

pub length_counts : (l : List Entry) → ∣ l ∣ ≡ total one l
length_counts [] = refl
length_counts (e ∷ l) = let h = length_counts l in omega arith

-- What the head counts for, 0 where there is none.
abbrev pub at_head : (Entry → ℕ) → List Entry → ℕ
at_head count [] = 0
at_head count (e ∷ l) = count e

pub head_of_tail : (count : Entry → ℕ) (l : List Entry) (e : Entry) → at_head count l ≡ 0 → count e ≡ 0
    → at_head count (l ++ (e ∷ [])) ≡ 0
head_of_tail count [] e h new = new
head_of_tail count (x ∷ l) e h new = h

-- Over any count.
module _ (count : Entry → ℕ) where
  pub total_append : (a b : List Entry) → total count (a ++ b) ≡ total count a + total count b
  total_append [] b = omega arith
  total_append (e ∷ a) b = let h = total_append a b in omega arith

  pub total_tail : (l : List Entry) (e : Entry) → total count (l ++ (e ∷ [])) ≡ total count l + count e
  total_tail l e = total_append l (e ∷ []) ∙ omega arith

  pub total_at_most : (most : ℕ) → ((e : Entry) → count e ≤ most) → (l : List Entry) → total count l ≤ most * ∣ l ∣
  total_at_most most h [] = omega arith
  total_at_most most h (e ∷ l) = let i = total_at_most most h l in let j = h e in omega arith

  pub total_head_dropped : (l : List Entry) → total count (drop_head l) ≤ total count l
  total_head_dropped [] = omega arith
  total_head_dropped (e ∷ l) = omega arith

  pub total_without : (x : ℕ) (l : List Entry) → total count (without x l) ≤ total count l
  total_without x [] = omega arith
  total_without x (e ∷ l) =
      let h = total_without x l in
      either (λ w. total count w ≤ count e + total count l) (eqb e.page x) (omega arith) (omega arith)

  -- A page taken out and put in again at the tail: nothing is lost, whatever is counted.
  total_only : (x : ℕ) (l : List Entry) → total count (without x l) + total count (only x l) ≡ total count l
  total_only x [] = refl
  total_only x (e ∷ l) = go (eqb e.page x) (total_only x l)
    where
      go : (b : Bool) → total count (without x l) + total count (only x l) ≡ total count l
          → total count (if b then l else e ∷ without x l) + total count (if b then e ∷ [] else only x l)
          ≡ count e + total count l
      go true h = omega arith
      go false h = omega arith

  pub total_renewed : (x : ℕ) (l : List Entry) → total count (without x l ++ only x l) ≡ total count l
  total_renewed x l = total_append (without x l) (only x l) ∙ total_only x l

  pub total_marked_same : ((e : Entry) → count (marked e) ≡ count e) → (x : ℕ) (l : List Entry)
      → total count (mark x l) ≡ total count l
  total_marked_same same x [] = refl
  total_marked_same same x (e ∷ l) =
      let h = total_marked_same same x l in
      either (λ m. total count m ≡ count e + total count l) (eqb e.page x) (omega (arith, same e)) (omega arith)

  pub total_marked_at_most : (more : ℕ) → ((e : Entry) → count (marked e) ≤ count e + more) → (x : ℕ) (l : List Entry)
      → total count (mark x l) ≤ total count l + more
  total_marked_at_most more most x [] = omega arith
  total_marked_at_most more most x (e ∷ l) =
      let h = total_marked_at_most more most x l in
      either (λ m. total count m ≤ count e + total count l + more) (eqb e.page x)
      (omega (arith, most e)) (omega arith)

pub length_head_dropped : (l : List Entry) → ∣ drop_head l ∣ ≡ ∣ l ∣ - 1
length_head_dropped [] = refl
length_head_dropped (e ∷ l) = omega arith

pub length_marked : (x : ℕ) (l : List Entry) → ∣ mark x l ∣ ≡ ∣ l ∣
length_marked x [] = refl
length_marked x (e ∷ l) = either (λ m. ∣ m ∣ ≡ suc ∣ l ∣) (eqb e.page x) refl (ap suc (length_marked x l))

pub length_renewed : (x : ℕ) (l : List Entry) → ∣ without x l ++ only x l ∣ ≡ ∣ l ∣
length_renewed x l = omega (arith, total_renewed one x l, length_counts (without x l ++ only x l), length_counts l)

pub length_without_at_most : (x : ℕ) (l : List Entry) → ∣ without x l ∣ ≤ ∣ l ∣
length_without_at_most x l = omega (arith, total_without one x l, length_counts (without x l), length_counts l)

-- Page x, by its count.
module _ (x : ℕ) where
  pub has_counts : (l : List Entry) → has x l ≡ true → 1 ≤ total (is x) l
  has_counts [] h = absurd (false≢true h)
  has_counts (e ∷ l) h = go (eqb e.page x) h (has_counts l)
    where
      go : (b : Bool) → (if b then true else has x l) ≡ true → (has x l ≡ true → 1 ≤ total (is x) l)
          → 1 ≤ (if b then 1 else 0) + total (is x) l
      go true h i = omega arith
      go false h i = let j = i h in omega arith

  pub lacks_counts : (l : List Entry) → has x l ≡ false → total (is x) l ≡ 0
  lacks_counts [] h = refl
  lacks_counts (e ∷ l) h = go (eqb e.page x) h (lacks_counts l)
    where
      go : (b : Bool) → (if b then true else has x l) ≡ false → (has x l ≡ false → total (is x) l ≡ 0)
          → (if b then 1 else 0) + total (is x) l ≡ 0
      go true h i = absurd (true≢false h)
      go false h i = let j = i h in omega arith

  decided : (b : Bool) (l : List Entry) → has x l ≡ b → 1 ≤ total (is x) l → has x l ≡ true
  decided true l h i = h
  decided false l h i = let j = lacks_counts l h in absurd (omega arith)

  pub counts_has : (l : List Entry) → 1 ≤ total (is x) l → has x l ≡ true
  counts_has l = decided (has x l) l refl

  pub counts_lacks : (l : List Entry) → total (is x) l ≡ 0 → has x l ≡ false
  counts_lacks l h = go (has x l) refl
    where
      go : (b : Bool) → has x l ≡ b → has x l ≡ false
      go true i = let j = has_counts l i in absurd (omega arith)
      go false i = i

  pub is_itself : (e : Entry) → e.page ≡ x → is x e ≡ 1
  is_itself e h = ap (λ (b : Bool). if b then 1 else 0) (eq-eqb e.page x h)

  pub is_at_most_one : (e : Entry) → is x e ≤ 1
  is_at_most_one e = either (λ n. n ≤ 1) (eqb e.page x) (omega arith) (omega arith)

  -- A list that has x, without it.
  pub length_without : (l : List Entry) → has x l ≡ true → ∣ l ∣ ≡ ∣ without x l ∣ + 1
  length_without [] h = absurd (false≢true h)
  length_without (e ∷ l) h = go (eqb e.page x) h (length_without l)
    where
      go : (b : Bool) → (if b then true else has x l) ≡ true → (has x l ≡ true → ∣ l ∣ ≡ ∣ without x l ∣ + 1)
          → suc ∣ l ∣ ≡ ∣ if b then l else e ∷ without x l ∣ + 1
      go true h i = omega arith
      go false h i = let j = i h in omega arith

  pub count_without : (l : List Entry) → has x l ≡ true → total (is x) l ≡ total (is x) (without x l) + 1
  count_without [] h = absurd (false≢true h)
  count_without (e ∷ l) h = go (eqb e.page x) refl h (count_without l)
    where
      go : (b : Bool) → eqb e.page x ≡ b → (if b then true else has x l) ≡ true
          → (has x l ≡ true → total (is x) l ≡ total (is x) (without x l) + 1)
          → (if b then 1 else 0) + total (is x) l ≡ total (is x) (if b then l else e ∷ without x l) + 1
      go true s h i = omega arith
      go false s h i = let j = i h in let k : is x e ≡ 0 = ap (λ (b : Bool). if b then 1 else 0) s in omega arith

-- A bit counts for one at most, and each entry is S or L.
pub bits_at_most_one : (e : Entry) → bits e ≤ 1
bits_at_most_one e = either (λ n. n ≤ 1) e.bit (omega arith) (omega arith)

pub short_or_long : (f : Filter) → short_of f + long_of f ≡ 1
short_or_long S = refl
short_or_long L = refl

pub short_and_long : (l : List Entry) → total short l + total long l ≡ ∣ l ∣
short_and_long [] = refl
short_and_long (e ∷ l) = omega (arith, short_or_long e.filter, short_and_long l)
