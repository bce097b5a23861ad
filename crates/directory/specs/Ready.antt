-- What the functions under a request and a run need of the words that they are given, and what they make of them.
-- They are internal: the public operations ask for nothing.
use Rattle.std.specs.Prelude.{◌≡◌, true, List, ◌++◌, ℕ, ◌+◌, ◌*◌, ◌≤◌, take, drop}
use Rattle.terms.specs.Choice.{∣◌∣}
use Rattle.figures.specs.Directory.{Directory}
use Rattle.figures.specs.Policy.{policy_of}
use Rattle.figures.specs.Request as Request
use Rattle.figures.specs.Request.{answer, missed, request}
use Rattle.figures.specs.Run.{noted, run}
use Rattle.tally.specs.declared.Tally.{Tally}
use Rattle.engine.specs.declared.Served.{Served}
use Rattle.engine.specs.declared.kinds.Kind.{Kind}
use Rattle.tally.specs.Note.{defined}
use Rattle.entries.specs.Holds.{Holds}
use Rattle.entries.specs.Stretches.{index}
use Rattle.figures.specs.Words.{encode, decode, size, n_t1, n_t2, n_b1, n_b2}
use Rattle.figures.specs.Sound.{SizeBounds, sound}

-- An answer of this kind that evicts nothing.
abbrev pub still_of : Kind → Served
still_of kind = record { kind = kind; page = 0; list = 0; moves = 0; cleared = 0 }

-- A hit on entry k of T1 and T2, which is for page x, under the policy that the directory names.
abbrev pub HitAs : ℕ → List ℕ → List ℕ → Type 0
HitAs k w w' =
    let d = decode w in
    (x : ℕ) → k ≡ index x (d.t1 ++ d.t2) → Holds ((policy_of d.policy).hit x d) w'

-- A miss in a full cache, under the policy that the directory names.
abbrev pub evicting : ℕ → Directory → Request.Served
evicting x d = let π = policy_of d.policy in missed π x (π.evict d)

-- The words of a sound directory, with the numbers that tell where its lists are.
pub record Ready (w : List ℕ) : Type 0 where
  pub is_sound : sound w ≡ true
  pub length_is : ∣ w ∣ ≡ 8 + 4 * size w
  pub bounds : SizeBounds (size w)
  pub cache_fits : n_t1 w + n_t2 w ≤ size w
  pub history_fits : n_b1 w + n_b2 w ≤ size w

-- One request of a run: the tally, the words and the answers after it, from those before it.
pub record Stepped (page : ℕ) (w answers : List ℕ) (at : ℕ) (t r : Tally) (w' answers' : List ℕ) : Type 0 where
  pub tally_is : defined r ≡ noted (request page (decode w)) (defined t)
  pub shown : Holds (request page (decode w)).dir w'
  pub answers_are : answers' ≡ take at answers ++ (answer (request page (decode w)) ++ drop (at + 4) answers)
  pub ready_again : Ready w'

-- A run of a sound directory: the tally, the words and the answers after it.
pub record RunThrough (w trace answers : List ℕ) (r : Tally) (w' answers' : List ℕ) : Type 0 where
  pub tally_is : defined r ≡ (run trace (decode w)).tally
  pub words_are : w' ≡ encode (run trace (decode w)).dir
  pub answers_are : answers' ≡ (run trace (decode w)).answers ++ drop ∣ (run trace (decode w)).answers ∣ answers
