-- The directory as a value: the policy's number, c, the targets p and q, and the four lists.
-- A rule changes lists and targets by the functions below alone.
use Rattle.std.specs.Prelude.{Bool, List, [], ◌∷◌, ◌++◌, ℕ, ◌+◌, ◌*◌, max, leb, if◌then◌else◌}
use Rattle.terms.specs.Choice.{∣◌∣}
use Rattle.figures.specs.Entry.{Entry, new_short, total, has, mark}

pub record Directory : Type 0 where
  pub policy : ℕ
  pub c : ℕ
  pub p : ℕ
  pub q : ℕ
  pub t1 : List Entry
  pub t2 : List Entry
  pub b1 : List Entry
  pub b2 : List Entry

-- The target p counts in parts of a page, of which a page has so many.
abbrev pub unit : ℕ
unit = 1

-- "A fresh directory has zeros everywhere but words 0 and 1."
abbrev pub fresh : ℕ → ℕ → Directory
fresh policy c = record { policy = policy; c = c; p = 0; q = 0; t1 = []; t2 = []; b1 = []; b2 = [] }

abbrev pub with_p : ℕ → Directory → Directory
with_p p d = record { policy = d.policy; c = d.c; p = p; q = d.q; t1 = d.t1; t2 = d.t2; b1 = d.b1; b2 = d.b2 }

abbrev pub with_q : ℕ → Directory → Directory
with_q q d = record { policy = d.policy; c = d.c; p = d.p; q = q; t1 = d.t1; t2 = d.t2; b1 = d.b1; b2 = d.b2 }

abbrev pub with_lists : List Entry → List Entry → List Entry → List Entry → Directory → Directory
with_lists t1 t2 b1 b2 d =
    record { policy = d.policy; c = d.c; p = d.p; q = d.q; t1 = t1; t2 = t2; b1 = b1; b2 = b2 }

-- The four lists by name.
pub data Name : Type 0 where
  T1 T2 B1 B2 : Name

abbrev pub list_of : Name → Directory → List Entry
list_of T1 d = d.t1
list_of T2 d = d.t2
list_of B1 d = d.b1
list_of B2 d = d.b2

abbrev pub with_list : Name → List Entry → Directory → Directory
with_list T1 l d = with_lists l d.t2 d.b1 d.b2 d
with_list T2 l d = with_lists d.t1 l d.b1 d.b2 d
with_list B1 l d = with_lists d.t1 d.t2 l d.b2 d
with_list B2 l d = with_lists d.t1 d.t2 d.b1 l d

-- e becomes the tail of list i.
abbrev pub to_tail : Name → Entry → Directory → Directory
to_tail i e d = with_list i (list_of i d ++ (e ∷ [])) d

-- "Hit: set its reference bit, nothing else."
abbrev pub hit : ℕ → Directory → Directory
hit x d = if has x d.t1 then with_list T1 (mark x d.t1) d else with_list T2 (mark x d.t2) d

-- "New: T1's tail, bit 0", and in CART S: line 13 of both figures. The next request counts it into its n_S. FIFO, CLOCK
-- and LRU place it alike.
unfoldable pub place_new : ℕ → Directory → Directory
place_new x d = to_tail T1 (new_short x) d

-- How many pages are in the cache and in the histories, and all that are listed.
abbrev pub cached : Directory → ℕ
cached d = ∣ d.t1 ∣ + ∣ d.t2 ∣

abbrev pub remembered : Directory → ℕ
remembered d = ∣ d.b1 ∣ + ∣ d.b2 ∣

abbrev pub listed : Directory → List Entry
listed d = d.t1 ++ (d.t2 ++ (d.b1 ++ d.b2))

-- What the entries of T1 and T2 count for, as n_S, n_L and the set reference bits.
abbrev pub in_cache : (Entry → ℕ) → Directory → ℕ
in_cache count d = total count d.t1 + total count d.t2

-- "|T1| ≥ max(1, p)", by which both figures choose between T1 and T2: line 24 of Figure 2, line 36 of Figure 3.
abbrev pub t1_at_target : Directory → Bool
t1_at_target d = leb (max unit d.p) (unit * ∣ d.t1 ∣)
