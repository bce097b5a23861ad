-- An entry of the directory: a page, its reference bit, its filter; and lists of entries, from head to tail.
-- Entries are made by the helpers below alone, so that a further flag is added in one place.
use Rattle.std.specs.Prelude.{Bool, true, false, List, [], ◌∷◌, ℕ, ◌+◌, eqb, if◌then◌else◌}

-- The filter: S, short-term utility, or L, long-term utility.
pub data Filter : Type 0 where
  S L : Filter

pub record Entry : Type 0 where
  pub page : ℕ
  pub bit : Bool
  pub filter : Filter

-- "T1's tail, bit 0": a page that is new, or comes back, has its reference bit clear.
abbrev pub new_short : ℕ → Entry
new_short x = record { page = x; bit = false; filter = S }

abbrev pub new_long : ℕ → Entry
new_long x = record { page = x; bit = false; filter = L }

abbrev pub marked : Entry → Entry
marked e = record { page = e.page; bit = true; filter = e.filter }

abbrev pub cleared : Entry → Entry
cleared e = record { page = e.page; bit = false; filter = e.filter }

abbrev pub made_long : Entry → Entry
made_long e = record { page = e.page; bit = e.bit; filter = L }

-- A demoted entry keeps what it has; its bit is clear.
abbrev pub demoted : Entry → Entry
demoted e = e

abbrev pub is_long : Filter → Bool
is_long S = false
is_long L = true

-- What an entry counts for: 1 where its bit is set, its filter is S, its filter is L.
abbrev pub bits : Entry → ℕ
bits e = if e.bit then 1 else 0

abbrev pub short_of : Filter → ℕ
short_of S = 1
short_of L = 0

abbrev pub long_of : Filter → ℕ
long_of S = 0
long_of L = 1

abbrev pub short : Entry → ℕ
short e = short_of e.filter

abbrev pub long : Entry → ℕ
long e = long_of e.filter

-- The sum of what the entries count for.
abbrev pub total : (Entry → ℕ) → List Entry → ℕ
total count [] = 0
total count (e ∷ l) = count e + total count l

-- No entry of the list counts: no bit is set, none is S, none is L.
abbrev pub none_of : (Entry → ℕ) → List Entry → Bool
none_of count l = eqb (total count l) 0

-- Page x is in the list.
abbrev pub has : ℕ → List Entry → Bool
has x [] = false
has x (e ∷ l) = if eqb e.page x then true else has x l

-- The list with the reference bit of page x set.
abbrev pub mark : ℕ → List Entry → List Entry
mark x [] = []
mark x (e ∷ l) = if eqb e.page x then marked e ∷ l else e ∷ mark x l

-- The list without page x.
abbrev pub without : ℕ → List Entry → List Entry
without x [] = []
without x (e ∷ l) = if eqb e.page x then l else e ∷ without x l

-- What that leaves out: the entry of page x, where there is one.
abbrev pub only : ℕ → List Entry → List Entry
only x [] = []
only x (e ∷ l) = if eqb e.page x then e ∷ [] else only x l

-- The list without its head.
abbrev pub drop_head : List Entry → List Entry
drop_head [] = []
drop_head (e ∷ l) = l

-- All pages of the list differ.
abbrev pub differ : List Entry → Bool
differ [] = true
differ (e ∷ l) = if has e.page l then false else differ l
