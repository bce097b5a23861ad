-- The words of a stretch while they are moved two places to the front, or to the end.
-- For the loops of `turn` and `shift_in`, and for the leaves, which name what stands before and after the stretch.
use mathlib.Core.Path.{◌≡◌, refl, sym, ap, ◌∙◌}
use mathlib.Core.List.{List, [], ◌∷◌, ◌++◌, append_assoc, append-nil}
use Prim.Native.Nat.{ℕ, suc, ◌+◌, ◌-◌, ◌≤◌, ◌<◌}
use native.Mathlib.Numerals.{add-one}
use native.Mathlib.Omega.{arith}
use lib.ListN.{length, take, drop, get_or, set, length-append, length-take, length-drop, get_or-append}
use lib.Seq.{length-take-le, take_all, take-length, take-suc, take_at, drop-cons, drop_at, drop-length, append_snoc}
use lib.Seq.{get_or-append-add, get_or-take, get_or-drop, set_at}
use borrow.Rule.Slice.PartMut.{mid_of, post_of, put_mid}

-- The first i words of Y, then those of l.
pub over : List ℕ → List ℕ → ℕ → List ℕ
over Y l i = take i Y ++ drop i l

pub over_none : (Y l : List ℕ) → l ≡ over Y l 0
unfolding over
over_none Y l = refl

module _ (Y l : List ℕ) (i : ℕ) (y : i < length Y) (h : i < length l) where
  passed : length (take i Y) ≡ i
  passed = length-take-le i Y (omega arith)

  behind : (k : ℕ) → get_or (over Y l i) (i + k) 0 ≡ get_or l (i + k) 0
  unfolding over
  behind k =
      ap (λ (j : ℕ). get_or (over Y l i) (j + k) 0) (sym passed)
      ∙ get_or-append-add (take i Y) (drop i l) k 0
      ∙ get_or-drop i l k 0

  pub over_more : set (over Y l i) i (get_or Y i 0) ≡ over Y l (i + 1)
  unfolding over
  over_more =
      ap (λ (r : List ℕ). set (take i Y ++ r) i (get_or Y i 0)) (drop-cons l i 0 h)
      ∙ set_at (take i Y) (get_or l i 0) (drop (suc i) l) (get_or Y i 0) i passed
      ∙ sym (append_snoc (take i Y) (get_or Y i 0) (drop (suc i) l))
      ∙ ap (λ (r : List ℕ). r ++ drop (suc i) l) (sym (take-suc Y i 0 y))
      ∙ ap (λ (k : ℕ). over Y l k) (sym (add-one i))

  pub over_less : set (over Y l (i + 1)) i (get_or l i 0) ≡ over Y l i
  unfolding over
  over_less =
      let rest = drop (suc i) l in
      ap (λ (k : ℕ). set (over Y l k) i (get_or l i 0)) (add-one i)
      ∙ ap (λ (r : List ℕ). set (r ++ rest) i (get_or l i 0)) (take-suc Y i 0 y)
      ∙ ap (λ (r : List ℕ). set r i (get_or l i 0)) (append_snoc (take i Y) (get_or Y i 0) rest)
      ∙ set_at (take i Y) (get_or Y i 0) rest (get_or l i 0) i passed
      ∙ ap (λ (r : List ℕ). take i Y ++ r) (sym (drop-cons l i 0 h))

over_before : (Y l : List ℕ) (i k : ℕ) → k < i → i ≤ length Y → get_or (over Y l i) k 0 ≡ get_or Y k 0
unfolding over
over_before Y l i k before fits =
    let long : length (take i Y) ≡ i = length-take-le i Y fits in
    get_or-append (take i Y) (drop i l) 0 k (omega arith) ∙ get_or-take i Y k 0 before

pub over_all : (Y l : List ℕ) → length Y ≡ length l → Y ≡ over Y l (length Y)
unfolding over
over_all Y l same =
    let rest : drop (length Y) l ≡ [] = rw same (drop-length l) in
    sym (rw (rest, take-length Y) (append-nil Y))

-- What a shift by two from the end makes of l.
module _ (page flags : ℕ) (l : List ℕ) where
  abbrev pub shifted : List ℕ
  shifted = take (length l) (page ∷ flags ∷ l)

  pub shifted_more : (i : ℕ) → 2 ≤ i → i < length l
      → set (over l shifted (i + 1)) i (get_or (over l shifted (i + 1)) (i - 2) 0) ≡ over l shifted i
  shifted_more i two h =
      let all = page ∷ flags ∷ l in
      let on : 2 + (i - 2) ≡ i = omega arith in
      let read : get_or (over l shifted (i + 1)) (i - 2) 0 ≡ get_or shifted i 0 =
      over_before l shifted (i + 1) (i - 2) (omega arith) (omega arith)
      ∙ get_or-drop 2 all (i - 2) 0
      ∙ ap (λ (k : ℕ). get_or all k 0) on
      ∙ sym (get_or-take (length l) all i 0 h) in
      ap (λ (v : ℕ). set (over l shifted (i + 1)) i v) read
      ∙ over_less l shifted i h (simp length-take (omega arith))

pub shifted_last : (page flags : ℕ) (l : List ℕ) → 2 ≤ length l
    → set (set (over l (shifted page flags l) 2) 1 flags) 0 page ≡ shifted page flags l
unfolding over
shifted_last page flags [] two = absurd (omega arith)
shifted_last page flags (x ∷ []) two = absurd (omega arith)
shifted_last page flags (x ∷ y ∷ l) two = refl

-- Of l, i words moved two places to the front.
pub moved : List ℕ → ℕ → List ℕ
moved l i = over (drop 2 l) l i

pub moved_none : (l : List ℕ) → l ≡ moved l 0
unfolding moved
moved_none l = over_none (drop 2 l) l

pub moved_more : (l : List ℕ) (i : ℕ) → i + 2 < length l
    → set (moved l i) i (get_or (moved l i) (i + 2) 0) ≡ moved l (i + 1)
unfolding moved
moved_more l i h =
    let y : i < length (drop 2 l) = simp length-drop (omega arith) in
    let read : get_or (moved l i) (i + 2) 0 ≡ get_or (drop 2 l) i 0 =
    behind (drop 2 l) l i y (omega arith) 2 ∙ ap (λ (k : ℕ). get_or l k 0) (omega arith) ∙ sym (get_or-drop 2 l i 0) in
    ap (λ (v : ℕ). set (moved l i) i v) read ∙ over_more (drop 2 l) l i y (omega arith)

-- The last two words stored.
two : (r : List ℕ) → length r ≡ 2 → (f : List ℕ) (m a b : ℕ) → length f ≡ m
    → set (set (f ++ r) m a) (m + 1) b ≡ f ++ (a ∷ b ∷ [])
two [] e f m a b h = absurd (omega arith)
two (u ∷ []) e f m a b h = absurd (omega arith)
two (u ∷ v ∷ w ∷ r) e f m a b h = absurd (omega arith)
two (u ∷ v ∷ []) e f m a b h =
    ap (λ (t : List ℕ). set t (m + 1) b) (set_at f u (v ∷ []) a m h ∙ sym (append_snoc f a (v ∷ [])))
    ∙ set_at (f ++ (a ∷ [])) v [] b (m + 1) (length-append f (a ∷ []) ∙ ap (λ (k : ℕ). k + 1) h)
    ∙ append_snoc f a (b ∷ [])

pub moved_last : (l : List ℕ) (m : ℕ) → m + 2 ≡ length l
    → set (set (moved l m) m (get_or l 0 0)) (m + 1) (get_or l 1 0) ≡ drop 2 l ++ take 2 l
unfolding moved over
moved_last [] m e = absurd (omega arith)
moved_last (x ∷ []) m e = absurd (omega arith)
moved_last (x ∷ y ∷ l) m e =
    ap (λ (f : List ℕ). set (set (f ++ drop m (x ∷ y ∷ l)) m x) (m + 1) y) (take_all m l (omega arith))
    ∙ two (drop m (x ∷ y ∷ l)) (simp length-drop (omega arith)) l m x y (omega arith)

pub short : (l : List ℕ) → length l < 2 → l ≡ drop 2 l ++ take 2 l
short [] h = refl
short (x ∷ []) h = refl
short (x ∷ y ∷ l) h = absurd (omega arith)

-- The entry at word a made the last before word e.
module _ (P M R : List ℕ) (h f v a e : ℕ) (p : length P ≡ a) (q : a + 2 + length M ≡ e) where
  stored : set (P ++ (h ∷ f ∷ (M ++ R))) (a + 1) v ≡ P ++ (h ∷ v ∷ (M ++ R))
  stored =
      ap (λ (l : List ℕ). set l (a + 1) v) (sym (append_snoc P h (f ∷ (M ++ R))))
      ∙ set_at (P ++ (h ∷ [])) f (M ++ R) v (a + 1) (length-append P (h ∷ []) ∙ ap (λ (k : ℕ). k + 1) p)
      ∙ append_snoc P h (v ∷ (M ++ R))

  after : drop a (P ++ (h ∷ v ∷ (M ++ R))) ≡ h ∷ v ∷ (M ++ R)
  after = drop_at P (h ∷ v ∷ (M ++ R)) a p

  mid : mid_of a (e - a) (P ++ (h ∷ v ∷ (M ++ R))) ≡ h ∷ v ∷ M
  mid = ap (λ (l : List ℕ). take (e - a) l) after ∙ take_at (h ∷ v ∷ M) R (e - a) (omega arith)

  post : post_of a (e - a) (P ++ (h ∷ v ∷ (M ++ R))) ≡ R
  post = ap (λ (l : List ℕ). drop (e - a) l) after ∙ drop_at (h ∷ v ∷ M) R (e - a) (omega arith)

  put : put_mid a (e - a) (P ++ (h ∷ v ∷ (M ++ R))) (M ++ (h ∷ v ∷ [])) ≡ P ++ (M ++ (h ∷ v ∷ R))
  put = rw (post, take_at P (h ∷ v ∷ (M ++ R)) a p, append_assoc M (h ∷ v ∷ []) R)

  pub carried : (X L : List ℕ) → X ≡ P ++ (h ∷ f ∷ (M ++ R))
      → L ≡ drop 2 (mid_of a (e - a) (set X (a + 1) v)) ++ take 2 (mid_of a (e - a) (set X (a + 1) v))
      → put_mid a (e - a) (set X (a + 1) v) L ≡ P ++ (M ++ (h ∷ v ∷ R))
  carried X L x l =
      let s : set X (a + 1) v ≡ P ++ (h ∷ v ∷ (M ++ R)) = ap (λ (z : List ℕ). set z (a + 1) v) x ∙ stored in
      let m : mid_of a (e - a) (set X (a + 1) v) ≡ h ∷ v ∷ M = ap (λ (z : List ℕ). mid_of a (e - a) z) s ∙ mid in
      ap (λ (z : List ℕ). put_mid a (e - a) (set X (a + 1) v) z) (l ∙ ap (λ (z : List ℕ). drop 2 z ++ take 2 z) m)
      ∙ ap (λ (z : List ℕ). put_mid a (e - a) z (M ++ (h ∷ v ∷ []))) s
      ∙ put

-- An entry put in at word a, and the last before word e out.
module _ (P M R : List ℕ) (h f u v a e : ℕ) (p : length P ≡ a) (q : a + length M + 2 ≡ e) where
  pub pushed : (X L : List ℕ) → X ≡ P ++ (M ++ (h ∷ f ∷ R))
      → L ≡ take (length (mid_of a (e - a) X)) (u ∷ v ∷ mid_of a (e - a) X)
      → put_mid a (e - a) X L ≡ P ++ (u ∷ v ∷ (M ++ R))
  pushed X L x l =
      let mid = M ++ (h ∷ f ∷ []) in
      let longer : length mid ≡ length M + 2 = length-append M (h ∷ f ∷ []) in
      let n : length mid ≡ e - a = omega arith in
      let from_a : drop a X ≡ mid ++ R =
      ap (λ (z : List ℕ). drop a z) x ∙ drop_at P (M ++ (h ∷ f ∷ R)) a p ∙ sym (append_assoc M (h ∷ f ∷ []) R) in
      let m : mid_of a (e - a) X ≡ mid = ap (λ (z : List ℕ). take (e - a) z) from_a ∙ take_at mid R (e - a) n in
      let s : post_of a (e - a) X ≡ R = ap (λ (z : List ℕ). drop (e - a) z) from_a ∙ drop_at mid R (e - a) n in
      let k : L ≡ u ∷ v ∷ M =
      l ∙ ap (λ (z : List ℕ). take (length z) (u ∷ v ∷ z)) m
      ∙ take_at (u ∷ v ∷ M) (h ∷ f ∷ []) (length mid) (omega arith) in
      let front : take a X ≡ P = ap (λ (z : List ℕ). take a z) x ∙ take_at P (M ++ (h ∷ f ∷ R)) a p in
      rw (s, front, k)
