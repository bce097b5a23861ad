-- What the tests of soundness need of the words that they are given, and the parts of soundness that they answer.
-- They are internal: the public operations of directory ask for nothing.
use Rattle.std.specs.Prelude.{◌≡◌, Bool, true, List, [], ◌∷◌, ◌++◌, ℕ, ◌+◌, ◌*◌, ◌≤◌, get_or, leb, ltb, eqb, if◌then◌else◌}
use Rattle.terms.specs.Choice.{∣◌∣, every}
use Rattle.terms.specs.Policies.{known_policy}
use Rattle.figures.specs.Entry.{bits, none_of, differ}
use Rattle.figures.specs.Directory.{unit, listed}
use Rattle.figures.specs.Words.{encode, decode, size, n_t1, n_t2, n_b1, n_b2}
use Rattle.figures.specs.Policy.{policy_of}
use Rattle.figures.specs.Sound.{SizeBounds}

-- The words' number, policy and size are in order.
pub record Orderly (w : List ℕ) : Type 0 where
  pub length_is : ∣ w ∣ ≡ 8 + 4 * size w
  pub policy-known : known_policy (get_or w 0 0) ≡ true
  pub bounds : SizeBounds (size w)

-- "p ≤ c; |T1|+|T2| ≤ c; |B1|+|B2| ≤ c; both histories are empty if |T1|+|T2| < c"
abbrev pub sizes_fit : List ℕ → Bool
sizes_fit w =
    every (
    leb (get_or w 2 0) (unit * size w)
    ∷ leb (n_t1 w + n_t2 w) (size w)
    ∷ leb (n_b1 w + n_b2 w) (size w)
    ∷ (if ltb (n_t1 w + n_t2 w) (size w) then eqb (n_b1 w + n_b2 w) 0 else true)
    ∷ [])

-- The words are in order, their lists fit, and they are the words of the directory that they hold.
pub record WordsHeld (w : List ℕ) : Type 0 where
  pub orderly : Orderly w
  pub is : encode (decode w) ≡ w
  pub cache_fits : n_t1 w + n_t2 w ≤ size w
  pub history_fits : n_b1 w + n_b2 w ≤ size w

-- What soundness says of the entries that are read through decode.
abbrev pub entries_sound : List ℕ → Bool
entries_sound w =
    every (
    differ (listed (decode w))
    ∷ none_of bits ((decode w).b1 ++ (decode w).b2)
    ∷ (policy_of (get_or w 0 0)).own_sound w
    ∷ [])
