-- What the leaves that move an entry on or back, put one in or take one out do to the words of a directory.
-- The listed entries are named in parts, around the entry and the place that it goes to.
use mathlib.Core.Path.{◌≡◌, sym, ap, ◌∙◌}
use mathlib.Core.List.{List, [], ◌∷◌, ◌++◌, append_assoc}
use Prim.Native.Nat.{ℕ, zero, suc, ◌+◌, ◌-◌, ◌*◌, ◌≤◌}
use native.Mathlib.Omega.{arith}
use lib.ListN.{length, get_or, set, take, drop, replicate}
use lib.ListN.{length-append, length-set, length-drop, length-replicate, take-append-drop}
use lib.Seq.{take-add, drop-drop, length-take-le, get_or_at, set_at, set-append_left}
use Rattle.terms.specs.Choice.{∣◌∣}
use Rattle.figures.specs.Entry.{Entry}
use Rattle.figures.specs.Directory.{Directory, listed}
use Rattle.figures.specs.Words.{flags, words, zeros}
use Rattle.laws.proofs.Encoding.{words_append, length_words}
use Rattle.entries.specs.Holds.{Holds}
use Rattle.entries.specs.Leaves.{ToEnd, PutIn, TakenOut}
use Rattle.entries.proofs.Laid.{heads, laid, zeros_after, insert}

-- The entries of d' stand in L, and in front of them still the eight words of d.
abbrev pub LaidBehind : Directory → Directory → List ℕ → Type 0
LaidBehind d d' L = L ≡ heads d ++ (words (listed d') ++ zeros d')

same_zeros : (d d' : Directory) → d'.c ≡ d.c → ∣ listed d' ∣ ≡ ∣ listed d ∣ → zeros d ≡ zeros d'
same_zeros d d' h i = zeros_after d ∙ rw (← h, ← i) (sym (zeros_after d'))

two_zeros : (n : ℕ) → 2 ≤ n → replicate {A = ℕ} n 0 ≡ 0 ∷ 0 ∷ replicate (n - 2) 0
two_zeros zero h = absurd (omega arith)
two_zeros (suc zero) h = absurd (omega arith)
two_zeros (suc (suc n)) h = let e : n ≡ suc (suc n) - 2 = omega arith in rw (← e)

fewer_zeros : (d d' : Directory) → d'.c ≡ d.c → ∣ listed d' ∣ ≡ ∣ listed d ∣ + 1 → 2 + 2 * ∣ listed d ∣ ≤ 4 * d.c
    → zeros d ≡ 0 ∷ 0 ∷ zeros d'
fewer_zeros d d' h i k =
    let e : 4 * d.c - 2 * ∣ listed d ∣ - 2 ≡ 4 * d'.c - 2 * ∣ listed d' ∣ = omega arith in
    zeros_after d ∙ two_zeros (4 * d.c - 2 * ∣ listed d ∣) (omega arith) ∙ rw (e, ← zeros_after d')

-- The words, where the listed entries are in three parts and an entry goes over the middle one.
module _ (d d' : Directory) (A B C : List Entry) (e e' : Entry) (w L : List ℕ) (s z v : ℕ) (is : Holds d w)
    (size : d'.c ≡ d.c) (start : s ≡ 8 + 2 * ∣ A ∣) (end : z ≡ s + 2 * ∣ B ∣ + 2)
    (x : ℕ) (page : e'.page ≡ x) (new : v ≡ flags e') where
  pub moved_on : listed d ≡ A ++ (e ∷ (B ++ C)) → listed d' ≡ A ++ (B ++ (e' ∷ C)) → e.page ≡ x → ToEnd s z v w L
      → LaidBehind d d' L
  moved_on from to same does =
      let split : w ≡ (heads d ++ words A) ++ (e.page ∷ flags e ∷ (words B ++ (words C ++ zeros d))) =
      sym is ∙ laid d ∙ rw from (simp (words_append, append_assoc)) in
      let zs : zeros d ≡ zeros d' = same_zeros d d' size (rw (from, to) (simp length-append (omega arith))) in
      does (heads d ++ words A) (words B) (words C ++ zeros d) e.page (flags e) split
      (omega (arith, length_words A)) (omega (arith, length_words B))
      ∙ rw (to, ← zs, new, same, ← page) (simp (words_append, append_assoc))

  pub moved_back : listed d ≡ A ++ (B ++ (e ∷ C)) → listed d' ≡ A ++ (e' ∷ (B ++ C)) → PutIn s z x v w L
      → LaidBehind d d' L
  moved_back from to does =
      let split : w ≡ (heads d ++ words A) ++ (words B ++ (e.page ∷ flags e ∷ (words C ++ zeros d))) =
      sym is ∙ laid d ∙ rw from (simp (words_append, append_assoc)) in
      let zs : zeros d ≡ zeros d' = same_zeros d d' size (rw (from, to) (simp length-append (omega arith))) in
      does (heads d ++ words A) (words B) (words C ++ zeros d) e.page (flags e) split
      (omega (arith, length_words A)) (omega (arith, length_words B))
      ∙ rw (to, ← zs, new, ← page) (simp (words_append, append_assoc))

-- The words, where an entry is put in among the listed ones, or one of them is dropped.
module _ (d d' : Directory) (A B : List Entry) (e : Entry) (w L : List ℕ) (s z : ℕ) (is : Holds d w)
    (size : d'.c ≡ d.c) (start : s ≡ 8 + 2 * ∣ A ∣) (end : z ≡ s + 2 * ∣ B ∣ + 2) where
  pub added : listed d ≡ A ++ B → listed d' ≡ A ++ (e ∷ B) → z ≤ length w → PutIn s z e.page (flags e) w L
      → LaidBehind d d' L
  added from to room does =
      let n : ∣ listed d ∣ ≡ ∣ A ∣ + ∣ B ∣ = rw from (length-append A B) in
      let n' : ∣ listed d' ∣ ≡ ∣ A ∣ + ∣ B ∣ + 1 = rw to (simp length-append (omega arith)) in
      let all : length w ≡ 8 + (2 * ∣ listed d ∣ + (4 * d.c - 2 * ∣ listed d ∣)) =
      ap length (sym is ∙ laid d) ∙ simp (length-append, length_words, zeros_after, length-replicate) (omega arith) in
      let zs : zeros d ≡ 0 ∷ 0 ∷ zeros d' = fewer_zeros d d' size (omega arith) (omega arith) in
      let split : w ≡ (heads d ++ words A) ++ (words B ++ (0 ∷ 0 ∷ zeros d')) =
      sym is ∙ laid d ∙ rw (from, zs) (simp (words_append, append_assoc)) in
      does (heads d ++ words A) (words B) (zeros d') 0 0 split
      (omega (arith, length_words A)) (omega (arith, length_words B))
      ∙ rw to (simp (words_append, append_assoc))

  pub dropped : listed d ≡ A ++ (e ∷ B) → listed d' ≡ A ++ B → ∣ listed d ∣ ≤ 2 * d.c → TakenOut s z w L
      → LaidBehind d d' L
  dropped from to room does =
      let n : ∣ listed d ∣ ≡ ∣ A ∣ + ∣ B ∣ + 1 = rw from (simp length-append (omega arith)) in
      let n' : ∣ listed d' ∣ ≡ ∣ A ∣ + ∣ B ∣ = rw to (length-append A B) in
      let zs : zeros d' ≡ 0 ∷ 0 ∷ zeros d = fewer_zeros d' d (sym size) (omega arith) (omega arith) in
      let split : w ≡ (heads d ++ words A) ++ (e.page ∷ flags e ∷ (words B ++ zeros d)) =
      sym is ∙ laid d ∙ rw from (simp (words_append, append_assoc)) in
      does (heads d ++ words A) (words B) (zeros d) e.page (flags e) split
      (omega (arith, length_words A)) (omega (arith, length_words B))
      ∙ rw (to, zs) (simp (words_append, append_assoc))

-- The words, where an entry gets other flags and stays in its place.
module _ (d d' : Directory) (A C : List Entry) (e e' : Entry) (w : List ℕ) (at v : ℕ) (is : Holds d w)
    (here : at ≡ 9 + 2 * ∣ A ∣) (from : listed d ≡ A ++ (e ∷ C)) where
  front : length (heads d ++ (words A ++ (e.page ∷ []))) ≡ at
  front = omega (arith, length-append (words A) (e.page ∷ []), length_words A)

  split : w ≡ (heads d ++ (words A ++ (e.page ∷ []))) ++ (flags e ∷ (words C ++ zeros d))
  split = sym is ∙ laid d ∙ rw from (simp (words_append, append_assoc))

  pub flags_at : get_or w at 0 ≡ flags e
  flags_at = rw split (get_or_at (heads d ++ (words A ++ (e.page ∷ []))) (flags e) (words C ++ zeros d) 0 at front)

  pub reflagged : listed d' ≡ A ++ (e' ∷ C) → d'.c ≡ d.c → e'.page ≡ e.page → v ≡ flags e'
      → LaidBehind d d' (set w at v)
  reflagged to size page new =
      let zs : zeros d ≡ zeros d' = same_zeros d d' size (rw (from, to) (simp length-append)) in
      let after : heads d ++ (words (listed d') ++ zeros d')
      ≡ (heads d ++ (words A ++ (e'.page ∷ []))) ++ (flags e' ∷ (words C ++ zeros d)) =
      rw (to, ← zs) (simp (words_append, append_assoc)) in
      ap (λ (l : List ℕ). set l at v) split
      ∙ set_at (heads d ++ (words A ++ (e.page ∷ []))) (flags e) (words C ++ zeros d) v at front
      ∙ sym (rw (new, ← page) after)

-- The words once the lengths in front are stored.
module _ (d d' : Directory) (L : List ℕ) (is : LaidBehind d d' L) where
  pub no_length_set : heads d' ≡ heads d → Holds d' L
  no_length_set e = laid d' ∙ ap (λ (l : List ℕ). l ++ (words (listed d') ++ zeros d')) e ∙ sym is

  pub one_length_set : (i n : ℕ) → i ≤ 3 → heads d' ≡ set (heads d) (4 + i) n → Holds d' (set L (4 + i) n)
  one_length_set i n h e =
      sym
      (ap (λ (l : List ℕ). set l (4 + i) n) is
      ∙ set-append_left (heads d) _ (4 + i) n (omega arith)
      ∙ rw (← e, ← laid d'))

  pub two_lengths_set : (i j n m : ℕ) → i ≤ 3 → j ≤ 3 → heads d' ≡ set (set (heads d) (4 + i) n) (4 + j) m
      → Holds d' (set (set L (4 + i) n) (4 + j) m)
  two_lengths_set i j n m h k e =
      sym
      (ap (λ (l : List ℕ). set (set l (4 + i) n) (4 + j) m) is
      ∙ ap (λ (l : List ℕ). set l (4 + j) m) (set-append_left (heads d) _ (4 + i) n (omega arith))
      ∙ set-append_left (set (heads d) (4 + i) n) _ (4 + j) m (simp length-set (omega arith))
      ∙ rw (← e, ← laid d'))

-- A list in three parts, by two places.
pub record Parts (l : List Entry) (a b : ℕ) : Type 0 where
  pub first : List Entry
  pub middle : List Entry
  pub last : List Entry
  pub length_first : ∣ first ∣ ≡ a
  pub length_middle : a + ∣ middle ∣ ≡ b
  pub in_front : (e : Entry) → insert a e l ≡ first ++ (e ∷ (middle ++ last))
  pub behind : (e : Entry) → insert b e l ≡ first ++ (middle ++ (e ∷ last))

pub parts : (l : List Entry) (a b : ℕ) → a ≤ b → b ≤ ∣ l ∣ → Parts l a b
parts l a b h k =
    let n : a + (b - a) ≡ b = omega arith in
    let from_a : drop a l ≡ take (b - a) (drop a l) ++ drop b l =
    sym (take-append-drop (b - a) (drop a l)) ∙ rw (drop-drop, n) in
    let to_b : take b l ≡ take a l ++ take (b - a) (drop a l) = rw n at (take-add a (b - a) l) in
    record {
      first = take a l;
      middle = take (b - a) (drop a l);
      last = drop b l;
      length_first = length-take-le a l (omega arith);
      length_middle = omega (arith, length-take-le (b - a) (drop a l) (simp length-drop (omega arith)));
      in_front = λ e. ap (λ (r : List Entry). take a l ++ (e ∷ r)) from_a;
      behind = λ e. rw to_b (append_assoc (take a l) (take (b - a) (drop a l)) (e ∷ drop b l));
    }
