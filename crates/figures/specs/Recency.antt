-- The pages of a past, each once, the last used first; and the LRU directory that holds the first c of them.
-- One list serves every c: request 14 of 02, every size from one pass, will stand on it.
use Rattle.std.specs.Prelude.{◌≡◌, List, [], ◌∷◌, map, reverse, ℕ, take, eqb, if◌then◌else◌}
use Rattle.terms.specs.Policies.{lru}
use Rattle.figures.specs.Entry.{new_short}
use Rattle.figures.specs.Directory.{Directory, fresh, T1, with_list}

-- The list without page x, which stands in it once at most.
abbrev pub leave_out : ℕ → List ℕ → List ℕ
leave_out x [] = []
leave_out x (y ∷ l) = if eqb y x then l else y ∷ leave_out x l

-- A past has its most recent request first. A page that is used again comes to the front.
abbrev pub recent : List ℕ → List ℕ
recent [] = []
recent (x ∷ past) = x ∷ leave_out x (recent past)

-- T1 from tail to head is the first c of the list; all else is as in a fresh directory.
abbrev pub lru_holding : ℕ → List ℕ → Directory
lru_holding c l = with_list T1 (map new_short (reverse (take c l))) (fresh lru c)

-- The trace 1, 2, 1, 3: of its pages 3 is the last used, then 1, then 2. Of c = 2 pages 1 is T1's head, 3 its tail.
pub record RecentExample : Type 0 where
  pub in-order : recent (reverse (1 ∷ 2 ∷ 1 ∷ 3 ∷ [])) ≡ 3 ∷ 1 ∷ 2 ∷ []
  pub first_two : (lru_holding 2 (3 ∷ 1 ∷ 2 ∷ [])).t1 ≡ new_short 1 ∷ new_short 3 ∷ []
