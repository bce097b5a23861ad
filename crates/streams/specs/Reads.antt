-- A lent buffer that is read into, read after read. No contract can say which bytes a call of the system reads; what is
-- said here is that they are handed on as each read put them, all of them and in order, and when the reading is over.
use Rattle.std.specs.Prelude.{◌≡◌, List, [], ◌++◌, ℕ, ◌+◌, ◌≤◌, length, take, drop, Result, Ok, Err, Option, Some, None, MatchResult}
use Rattle.std.specs.declared.io.Error.{Error}
use Rattle.std.specs.declared.io.ErrorKind.TheVariants.{Interrupted}
use Rattle.std.specs.IoError.{error_kind}
use Rattle.streams.specs.declared.Failed.{Failed}

-- What one read answers.
abbrev pub Answer : Type 0
Answer = Result ℕ Error

-- What a read's answer tells. "Only a read that answers 0 ends the input", and one that went well is no failure.
abbrev pub ReadTells : Answer → Result (Option ℕ) Error → Type 0
ReadTells (Ok n) r = r ≡ Ok (Some n)
ReadTells (Err e) r =
    MatchResult r (λ n. (n ≡ None) × (error_kind e ≡ Interrupted)) (λ f. error_kind e ≡ Interrupted → ⊥)

-- How many bytes a read put.
abbrev pub put : Answer → ℕ
put (Ok n) = n
put (Err e) = 0

-- After a read that put bytes, or was interrupted, there is another; "only a read that answers 0 ends the input".
abbrev pub GoesOn : Answer → Type 0
GoesOn (Ok n) = 1 ≤ n
GoesOn (Err e) = error_kind e ≡ Interrupted

-- A read from a place of the buffer on: what stood before the place stays.
pub record ReadAt (w : List ℕ) (at : ℕ) (r : Answer) (w' : List ℕ) : Type 0 where
  pub fits : at + put r ≤ length w
  pub as_long : length w' ≡ length w
  pub before_stays : take at w' ≡ take at w

-- Reads one after another, each from where the one before it ended; n bytes in all.
pub data Reads (w : List ℕ) : ℕ → List ℕ → Type 0 where
  none : Reads w 0 w
  more : {at : ℕ} {v w' : List ℕ} → Reads w at v → (r : Answer) → GoesOn r → ReadAt v at r w' → Reads w (at + put r) w'

-- What the reads put, each as it stood when that read was over.
abbrev pub came : {w w' : List ℕ} {n : ℕ} → Reads w n w' → List ℕ
came none = []
came (more {at} {v} {w'} before r on one) = came before ++ take (put r) (drop at w')

-- The reading is over where a last read found the end, or where the buffer is full.
pub data ReadingOver (w : List ℕ) (n : ℕ) (v : List ℕ) : List ℕ → Type 0 where
  ended : {w' : List ℕ} → ReadAt v n (Ok 0) w' → ReadingOver w n v w'
  full : n ≡ length v → ReadingOver w n v v

-- "the bytes it hands on are all the bytes that were read, in order"
pub record Whole (w : List ℕ) (n : ℕ) (w' : List ℕ) : Type 0 where
  pub last : List ℕ
  pub reads : Reads w n last
  pub over : ReadingOver w n last w'
  pub in-order : take n w' ≡ came reads
  pub fits : n ≤ length w'

abbrev pub Handed : List ℕ → Result ℕ Failed → List ℕ → Type 0
Handed w (Ok n) w' = Whole w n w'
Handed w (Err e) w' = length w' ≡ length w
