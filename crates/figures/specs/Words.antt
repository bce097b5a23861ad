-- The directory as 8 + 4c words, and the words as a directory.
-- Word 0 the policy, 1 c, 2 and 3 the targets, 4 to 7 the lengths; then the entries, two words each; then zeros.
use Rattle.std.specs.Prelude.{List, [], ◌∷◌, ◌++◌, ℕ, zero, suc, ◌+◌, ◌-◌, ◌*◌, ◌/◌, ◌%◌, get_or, drop, replicate, eqb, if◌then◌else◌}
use Rattle.terms.specs.Choice.{∣◌∣}
use Rattle.figures.specs.Entry.{Entry, S, L, bits, long}
use Rattle.figures.specs.Directory.{Directory, cached, remembered}

-- "Flags: 1 reference bit set, 2 filter L (without it S)."
abbrev pub flags : Entry → ℕ
flags e = bits e + 2 * long e

-- The largest flags word: all flags set.
abbrev pub most_flags : ℕ
most_flags = 3

abbrev pub entry : ℕ → ℕ → Entry
entry page flags = record { page = page; bit = eqb (flags % 2) 1; filter = if eqb (flags / 2 % 2) 1 then L else S }

-- The words of a list, and the first n entries that words hold.
abbrev pub words : List Entry → List ℕ
words [] = []
words (e ∷ l) = e.page ∷ flags e ∷ words l

abbrev pub entries : ℕ → List ℕ → List Entry
entries zero w = []
entries (suc n) [] = []
entries (suc n) (page ∷ []) = []
entries (suc n) (page ∷ flags ∷ w) = entry page flags ∷ entries n w

-- The length words, as they stand: of damaged words they may say anything.
abbrev pub size : List ℕ → ℕ
size w = get_or w 1 0

abbrev pub n_t1 : List ℕ → ℕ
n_t1 w = get_or w 4 0

abbrev pub n_t2 : List ℕ → ℕ
n_t2 w = get_or w 5 0

abbrev pub n_b1 : List ℕ → ℕ
n_b1 w = get_or w 6 0

abbrev pub n_b2 : List ℕ → ℕ
n_b2 w = get_or w 7 0

-- "Used entries come first: T1, T2, B1, B2, each from head to tail." How many words they take, and the words after
-- them.
abbrev pub used : List ℕ → ℕ
used w = 2 * (n_t1 w + n_t2 w + (n_b1 w + n_b2 w))

abbrev pub unused : List ℕ → List ℕ
unused w = drop (8 + used w) w

unfoldable pub decode : List ℕ → Directory
decode w = record {
  policy = get_or w 0 0;
  c = size w;
  p = get_or w 2 0;
  q = get_or w 3 0;
  t1 = entries (n_t1 w) (drop 8 w);
  t2 = entries (n_t2 w) (drop (8 + 2 * n_t1 w) w);
  b1 = entries (n_b1 w) (drop (8 + 2 * (n_t1 w + n_t2 w)) w);
  b2 = entries (n_b2 w) (drop (8 + 2 * (n_t1 w + n_t2 w + n_b1 w)) w);
}

-- "Unused entries are two zeros."
abbrev pub zeros : Directory → List ℕ
zeros d = replicate (4 * d.c - 2 * (cached d + remembered d)) 0

abbrev pub encode : Directory → List ℕ
encode d =
    d.policy ∷ d.c ∷ d.p ∷ d.q
    ∷ ∣ d.t1 ∣ ∷ ∣ d.t2 ∣ ∷ ∣ d.b1 ∣ ∷ ∣ d.b2 ∣
    ∷ words d.t1 ++ (words d.t2 ++ (words d.b1 ++ (words d.b2 ++ zeros d)))
