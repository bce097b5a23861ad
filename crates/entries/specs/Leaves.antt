-- What the leaves do to the words: w before, w' after. Each is said of every way to take the words apart, or of every
-- directory whose words they are, so that a caller names the parts or the directory and has the rest.
use Rattle.std.specs.Prelude.{◌≡◌, true, false, Option, Some, None, List, ◌∷◌, ◌++◌, ℕ, ◌+◌, ◌*◌, ◌≤◌, ◌<◌, get_or}
use Rattle.terms.specs.Choice.{∣◌∣}
use Rattle.figures.specs.Entry.{Entry, has, without, drop_head, total}
use Rattle.figures.specs.Directory.{Directory, list_of, with_list, to_tail, hit, cached, remembered}
use Rattle.figures.specs.Words.{flags, words}
use Rattle.entries.specs.Holds.{Holds}
use Rattle.entries.specs.Flags.{of_flag}
use Rattle.entries.specs.Stretches.{name_of, index}

-- The entry at word a becomes the last before word e, with flags f'.
abbrev pub ToEnd : ℕ → ℕ → ℕ → List ℕ → List ℕ → Type 0
ToEnd a e f' w w' =
    (P M R : List ℕ) (h f : ℕ) → w ≡ P ++ (h ∷ f ∷ (M ++ R)) → ∣ P ∣ ≡ a → a + 2 + ∣ M ∣ ≡ e
    → w' ≡ P ++ (M ++ (h ∷ f' ∷ R))

-- An entry is put in at word a, and the last entry before word e falls out.
abbrev pub PutIn : ℕ → ℕ → ℕ → ℕ → List ℕ → List ℕ → Type 0
PutIn a e page f' w w' =
    (P M R : List ℕ) (h f : ℕ) → w ≡ P ++ (M ++ (h ∷ f ∷ R)) → ∣ P ∣ ≡ a → a + ∣ M ∣ + 2 ≡ e
    → w' ≡ P ++ (page ∷ f' ∷ (M ++ R))

-- The entry at word a is taken out, and two zeros stand before word e.
abbrev pub TakenOut : ℕ → ℕ → List ℕ → List ℕ → Type 0
TakenOut a e w w' =
    (P M R : List ℕ) (h f : ℕ) → w ≡ P ++ (h ∷ f ∷ (M ++ R)) → ∣ P ∣ ≡ a → a + 2 + ∣ M ∣ ≡ e
    → w' ≡ P ++ (M ++ (0 ∷ 0 ∷ R))

-- The head of list i, with flags f', becomes the tail of list j.
abbrev pub HeadMoved : ℕ → ℕ → ℕ → List ℕ → List ℕ → Type 0
HeadMoved i j f' w w' =
    (d : Directory) (e e' : Entry) (es : List Entry) → Holds d w → list_of (name_of i) d ≡ e ∷ es
    → e'.page ≡ e.page → f' ≡ flags e'
    → Holds (to_tail (name_of j) e' (with_list (name_of i) es d)) w'

-- Entry k of the history b, which is for page, becomes the tail of list t with flags f'.
abbrev pub CameBack : ℕ → ℕ → ℕ → ℕ → ℕ → List ℕ → List ℕ → Type 0
CameBack b k t page f' w w' =
    (d : Directory) (e' : Entry) → Holds d w → k ≡ index page (list_of (name_of b) d) → e'.page ≡ page → f' ≡ flags e'
    → Holds (to_tail (name_of t) e' (with_list (name_of b) (without page (list_of (name_of b) d)) d)) w'

-- The head of list b is dropped.
abbrev pub ListHeadDropped : ℕ → List ℕ → List ℕ → Type 0
ListHeadDropped b w w' =
    (d : Directory) → Holds d w → cached d + remembered d ≤ 2 * d.c
    → Holds (with_list (name_of b) (drop_head (list_of (name_of b) d)) d) w'

-- The reference bit of entry k of T1 and T2 together is set.
abbrev pub Marked : ℕ → List ℕ → List ℕ → Type 0
Marked k w w' = (d : Directory) (x : ℕ) → Holds d w → k ≡ index x (d.t1 ++ d.t2) → Holds (hit x d) w'

-- What is so of every list of n entries that stands in the words from word a on.
abbrev pub OfEntries : List ℕ → ℕ → ℕ → (List Entry → Type 0) → Type 0
OfEntries w a n P =
    (before after : List ℕ) (l : List Entry) → w ≡ before ++ (words l ++ after) → ∣ before ∣ ≡ a → ∣ l ∣ ≡ n → P l

-- Page x is found at an entry, or nowhere.
abbrev pub FoundAt : List ℕ → ℕ → ℕ → ℕ → Option ℕ → Type 0
FoundAt w a n x None = OfEntries w a n (λ l. has x l ≡ false)
FoundAt w a n x (Some k) = (k < n) × OfEntries w a n (λ l. (has x l ≡ true) × (k ≡ index x l))

-- The same of list i of the directory that the words hold.
abbrev pub FoundIn : ℕ → ℕ → List ℕ → Option ℕ → Type 0
FoundIn i x w None = (d : Directory) → Holds d w → has x (list_of (name_of i) d) ≡ false
FoundIn i x w (Some k) =
    (k < get_or w (4 + i) 0)
    × ((d : Directory) → Holds d w
    → (has x (list_of (name_of i) d) ≡ true) × (k ≡ index x (list_of (name_of i) d)))

-- So many entries have the flag.
abbrev pub FlagCounted : List ℕ → ℕ → ℕ → ℕ → ℕ → Type 0
FlagCounted w a n flag r = (r ≤ n) × OfEntries w a n (λ l. r ≡ total (of_flag flag) l)
