-- "A directory is sound when": a test on any words, a line for each phrase of document 01, in its order.
-- Lengths are those that words 4 to 7 state, so that no damaged length escapes; entries are read through decode.
use Rattle.std.specs.Prelude.{Bool, true, List, [], ◌∷◌, ◌++◌, ℕ, ◌+◌, ◌*◌, ◌≤◌, get_or, take, drop, leb, ltb, eqb, if◌then◌else◌}
use Rattle.terms.specs.Choice.{∣◌∣, every, all_at_most}
use Rattle.terms.specs.Limits.{most_size, known_size}
use Rattle.terms.specs.Policies.{known_policy}
use Rattle.figures.specs.Entry.{bits, none_of, differ}
use Rattle.figures.specs.Directory.{unit, listed}
use Rattle.figures.specs.Words.{most_flags, decode, size, n_t1, n_t2, n_b1, n_b2, used, unused}
use Rattle.figures.specs.Policy.{policy_of}

-- The second word of each entry.
abbrev pub flag_words : List ℕ → List ℕ
flag_words [] = []
flag_words (page ∷ []) = []
flag_words (page ∷ flags ∷ w) = flags ∷ flag_words w

abbrev pub exact_length : List ℕ → Bool
exact_length w = eqb ∣ w ∣ (8 + 4 * size w)

unfoldable pub sound : List ℕ → Bool
sound w =
    every (
    -- "a lent run of 32-bit words, exactly 8 + 4c of them"
    exact_length w
    -- "words 0 and 1 are in range"
    ∷ known_policy (get_or w 0 0)
    ∷ known_size (size w)
    -- "p ≤ c"
    ∷ leb (get_or w 2 0) (unit * size w)
    -- "|T1|+|T2| ≤ c; |B1|+|B2| ≤ c"
    ∷ leb (n_t1 w + n_t2 w) (size w)
    ∷ leb (n_b1 w + n_b2 w) (size w)
    -- "both histories are empty if |T1|+|T2| < c"
    ∷ (if ltb (n_t1 w + n_t2 w) (size w) then eqb (n_b1 w + n_b2 w) 0 else true)
    -- "all listed pages differ"
    ∷ differ (listed (decode w))
    -- "flags are at most 3"
    ∷ all_at_most most_flags (flag_words (take (used w) (drop 8 w)))
    -- "history entries have no reference bit"
    ∷ none_of bits ((decode w).b1 ++ (decode w).b2)
    -- "unused words are zero"
    ∷ all_at_most 0 (unused w)
    -- "for CAR also .."; "for CART also .."; request 1 of 02: "All use T1 alone .."
    ∷ (policy_of (get_or w 0 0)).own_sound w
    ∷ [])

-- What that says of c and p, as facts: "c, 1 to 1,024"; "p ≤ c".
pub record SizeBounds (c : ℕ) : Type 0 where
  pub c_least : 1 ≤ c
  pub c_most : c ≤ most_size

pub record Bounds (c p : ℕ) : Type 0 where
  pub of_c : SizeBounds c
  pub p_fits : p ≤ unit * c
