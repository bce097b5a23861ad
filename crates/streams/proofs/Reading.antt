-- A read into a part is a read at the part's place, and what all reads put stands in front as each put it.
use Rattle.std.proofs.Common.{◌≡◌, ◌∙◌, refl, sym, ap, subst, List, ◌++◌, ℕ, ◌+◌, ◌-◌, ◌≤◌, length, take, drop, Option, Ok, arith}
use Rattle.std.specs.Prelude.{Result, Err, Some, None}
use Rattle.std.specs.declared.io.Error.{Error}
use Rattle.std.specs.declared.io.ErrorKind.TheVariants.{Interrupted}
use Rattle.std.specs.IoError.{error_kind}
use Rattle.std.proofs.lemmas.List.{take-append-le, length-take-le}
use Rattle.std.proofs.Math.Seq.{take-append-add}
use Rattle.std.specs.Io.KnownBytes.{Consumes, Keeps}
use Rattle.std.proofs.KnownBytes.{Consumes-trans, Consumes-kept}
use lib.Seq.{take-add}
use borrow.Rule.Slice.PartMut.{mid_of, post_of, put_mid, mid_len, same_len_mid, take_put}
use Rattle.streams.specs.Reads.{Answer, ReadTells, put, GoesOn, ReadAt, Reads, none, more, came, ended, full, Whole}

-- What a read puts into the part from a place on stands at that place.
pub read_at : (w part : List ℕ) (at : ℕ) (r : Answer) → at ≤ length w → length part ≡ length (mid_of at (length w - at) w)
    → put r ≤ length part → ReadAt w at r (put_mid at (length w - at) w part)
read_at w part at r within same few =
    let long = same ∙ mid_len at (length w) w (omega arith) in
    record {
      fits = omega (arith, few, long, within);
      as_long = same_len_mid at (length w - at) w part same;
      before_stays = take_put at (length w - at) w part within;
    }

-- What came before, and then what a read put.
pub take-put_mid : (w part : List ℕ) (at n : ℕ) → at ≤ length w → n ≤ length part
    → take (at + n) (put_mid at (length w - at) w part) ≡ take at w ++ take n part
take-put_mid w part at n within few =
    let rest = part ++ post_of at (length w - at) w in
    ap (λ (k : ℕ). take (k + n) (take at w ++ rest)) (sym (length-take-le at w within))
    ∙ take-append-add (take at w) rest n
    ∙ ap (λ (l : List ℕ). take at w ++ l) (take-append-le n part (post_of at (length w - at) w) few)

-- The reader's next bytes are those that came before, and then those that a read put.
pub next_more : (a b c : Option (List ℕ)) (w part : List ℕ) (at n at' : ℕ) → at ≤ length w → n ≤ length part
    → Consumes a b (take at w) → Consumes b c (take n part) → at' ≡ at + n
    → Consumes a c (take at' (put_mid at (length w - at) w part))
next_more a b c w part at n at' within few before one further =
    let w' = put_mid at (length w - at) w part in
    subst (λ (l : List ℕ). Consumes a c l) (sym (ap (λ (k : ℕ). take k w') further ∙ take-put_mid w part at n within few))
    (Consumes-trans a b c (take at w) (take n part) before one)

-- After a read that put nothing and failed they are those that came before.
pub next_kept : (a b c : Option (List ℕ)) (w part : List ℕ) (at k : ℕ) → at ≤ length w → Consumes a b (take at w)
    → Keeps b c → Consumes a c (take at (put_mid at k w part))
next_kept a b c w part at k within before one =
    subst (λ (l : List ℕ). Consumes a c l) (sym (take_put at k w part within)) (Consumes-kept a b c (take at w) before one)

-- WHAT A READ TOLD

bytes_told : Result (Option ℕ) Error → ℕ
bytes_told (Ok (Some n)) = n
bytes_told (Ok None) = 0
bytes_told (Err e) = 0

is_some : Option ℕ → ℕ
is_some (Some n) = 1
is_some None = 0

told_some : Result (Option ℕ) Error → ℕ
told_some (Ok o) = is_some o
told_some (Err e) = 0

pub came_as : (got : Answer) {r : Result (Option ℕ) Error} {n : ℕ} → ReadTells got r → r ≡ Ok (Some n) → got ≡ Ok n
unfolding bytes_told is_some
came_as (Ok m) says is = ap Ok (ap bytes_told (sym says ∙ is))
came_as (Err e) says is =
    let never = ap is_some (rw is at says).0 in absurd (omega (arith, never))

pub record Interrupts (got : Answer) : Type 0 where
  pub error : Error
  pub is : got ≡ Err error
  pub interrupted : error_kind error ≡ Interrupted

pub interrupted_as : (got : Answer) {r : Result (Option ℕ) Error} → ReadTells got r → r ≡ Ok None → Interrupts got
unfolding is_some told_some
interrupted_as (Ok m) says is =
    let never = ap told_some (sym says ∙ is) in absurd (omega (arith, never))
interrupted_as (Err e) says is = record { error = e; is = refl; interrupted = (rw is at says).1 }

in-order : {w v : List ℕ} {n : ℕ} (r : Reads w n v) → take n v ≡ came r
in-order none = refl
in-order (more {at} {v} {w'} before r on one) =
    take-add at (put r) w' ∙ ap (λ (l : List ℕ). l ++ take (put r) (drop at w')) (one.before_stays ∙ in-order before)

-- So far so many bytes have come, and the buffer is as long as it was.
pub record SoFar (w : List ℕ) (at : ℕ) (v : List ℕ) : Type 0 where
  pub reads : Reads w at v
  pub fits : at ≤ length v
  pub as_long : length v ≡ length w

pub begun : (w : List ℕ) → SoFar w 0 w
begun w = record { reads = none; fits = omega arith; as_long = refl }

-- After a read that goes on, as many more as it put: an interrupted one put nothing.
pub one_more : {w v w' : List ℕ} {at at' : ℕ} → SoFar w at v → (r : Answer) → GoesOn r → ReadAt v at r w'
    → at' ≡ at + put r → SoFar w at' w'
one_more {w} {w' = w'} h r on one further = subst (λ (n : ℕ). SoFar w n w') (sym further) record {
  reads = more h.reads r on one;
  fits = omega (arith, one.fits, one.as_long);
  as_long = one.as_long ∙ h.as_long;
}

pub found_end : {w v w' : List ℕ} {n : ℕ} → SoFar w n v → ReadAt v n (Ok 0) w' → Whole w n w'
found_end {v = v} h one = record {
  last = v;
  reads = h.reads;
  over = ended one;
  in-order = one.before_stays ∙ in-order h.reads;
  fits = omega (arith, h.fits, one.as_long);
}

pub filled : {w v : List ℕ} {n : ℕ} → SoFar w n v → length v ≤ n → Whole w n v
filled {v = v} h all = record {
  last = v;
  reads = h.reads;
  over = full (omega (arith, h.fits));
  in-order = in-order h.reads;
  fits = h.fits;
}
