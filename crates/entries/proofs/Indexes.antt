-- Where a page stands in a list: below its length just where the list has the page, and what stands around it.
-- For `find`, which counts the entries before the page, and for what is then done to the entry that it names.
use Rattle.std.specs.Prelude.{if◌then◌else◌}
use mathlib.Core.Path.{◌≡◌, refl, ap}
use mathlib.Core.Bool.{Bool, true, false, ◌||◌, true≢false, false≢true}
use mathlib.Core.List.{List, [], ◌∷◌, ◌++◌}
use Prim.Native.Nat.{ℕ, suc, ◌≤◌, ◌<◌}
use native.Mathlib.Omega.{arith}
use lib.Dec.{eqb}
use Rattle.terms.specs.Choice.{∣◌∣}
use Rattle.figures.specs.Entry.{Entry, marked, has, mark, without, only}
use Rattle.entries.specs.Stretches.{index}

has_index : (x : ℕ) (l : List Entry) → has x l ≡ true → index x l < ∣ l ∣
has_index x [] h = absurd (false≢true h)
has_index x (e ∷ l) h = go (eqb e.page x) h (has_index x l)
  where
    go : (b : Bool) → (if b then true else has x l) ≡ true → (has x l ≡ true → index x l < ∣ l ∣)
        → (if b then 0 else suc (index x l)) < suc ∣ l ∣
    go true h i = omega arith
    go false h i = let j = i h in omega arith

lacks_index_length : (x : ℕ) (l : List Entry) → has x l ≡ false → index x l ≡ ∣ l ∣
lacks_index_length x [] h = refl
lacks_index_length x (e ∷ l) h = go (eqb e.page x) h (lacks_index_length x l)
  where
    go : (b : Bool) → (if b then true else has x l) ≡ false → (has x l ≡ false → index x l ≡ ∣ l ∣)
        → (if b then 0 else suc (index x l)) ≡ suc ∣ l ∣
    go true h i = absurd (true≢false h)
    go false h i = ap suc (i h)

pub index_has : (x : ℕ) (l : List Entry) → index x l < ∣ l ∣ → has x l ≡ true
index_has x l h = go (has x l) refl
  where
    go : (b : Bool) → has x l ≡ b → has x l ≡ true
    go true i = i
    go false i = let j = lacks_index_length x l i in absurd (omega arith)

pub index_lacks : (x : ℕ) (l : List Entry) → ∣ l ∣ ≤ index x l → has x l ≡ false
index_lacks x l h = go (has x l) refl
  where
    go : (b : Bool) → has x l ≡ b → has x l ≡ false
    go true i = let j = has_index x l i in absurd (omega arith)
    go false i = i

-- The list around its first entry for page x, and what that entry's leaving or marking makes of it.
pub record Around (x : ℕ) (l : List Entry) : Type 0 where
  pub ahead : List Entry
  pub it : Entry
  pub behind : List Entry
  pub whole : l ≡ ahead ++ (it ∷ behind)
  pub length_ahead : ∣ ahead ∣ ≡ index x l
  pub left : without x l ≡ ahead ++ behind
  pub marks : mark x l ≡ ahead ++ (marked it ∷ behind)
  pub taken : only x l ≡ it ∷ []

pub around : (x : ℕ) (l : List Entry) → index x l < ∣ l ∣ → Around x l
around x [] h = absurd (omega arith)
around x (e ∷ l) h = go (eqb e.page x) refl h (around x l)
  where
    go : (b : Bool) → eqb e.page x ≡ b → (if b then 0 else suc (index x l)) < suc ∣ l ∣
        → (index x l < ∣ l ∣ → Around x l) → Around x (e ∷ l)
    go true i h k =
        record {
          ahead = [];
          it = e;
          behind = l;
          whole = refl;
          length_ahead = rw i;
          left = rw i;
          marks = rw i;
          taken = rw i;
        }
    go false i h k =
        let r = k (omega arith) in
        record {
          ahead = e ∷ r.ahead;
          it = r.it;
          behind = r.behind;
          whole = ap (λ (t : List Entry). e ∷ t) r.whole;
          length_ahead = rw i (ap suc r.length_ahead);
          left = rw i (ap (λ (t : List Entry). e ∷ t) r.left);
          marks = rw i (ap (λ (t : List Entry). e ∷ t) r.marks);
          taken = rw i r.taken;
        }

pub has_append : (x : ℕ) (a b : List Entry) → has x (a ++ b) ≡ has x a || has x b
has_append x [] b = refl
has_append x (e ∷ a) b = go (eqb e.page x) (has_append x a b)
  where
    go : (t : Bool) → has x (a ++ b) ≡ has x a || has x b
        → (if t then true else has x (a ++ b)) ≡ (if t then true else has x a) || has x b
    go true h = refl
    go false h = h

pub mark_append : (x : ℕ) (a b : List Entry) → mark x (a ++ b) ≡ (if has x a then mark x a ++ b else a ++ mark x b)
mark_append x [] b = refl
mark_append x (e ∷ a) b = go (eqb e.page x) (has x a) (mark_append x a b)
  where
    go : (y z : Bool) → mark x (a ++ b) ≡ (if z then mark x a ++ b else a ++ mark x b)
        → (if y then marked e ∷ (a ++ b) else e ∷ mark x (a ++ b))
        ≡ (if (if y then true else z) then (if y then marked e ∷ a else e ∷ mark x a) ++ b else (e ∷ a) ++ mark x b)
    go true z h = refl
    go false true h = ap (λ (t : List Entry). e ∷ t) h
    go false false h = ap (λ (t : List Entry). e ∷ t) h
