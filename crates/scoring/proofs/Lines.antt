-- A ledger's lines: one put from a place on, and all put one after another.
use Rattle.std.specs.Prelude.{Result, Ok}
use Rattle.std.specs.Result.{IsOk}
use mathlib.Core.Path.{◌≡◌, refl, ◌∙◌}
use mathlib.Core.List.{List, [], ◌∷◌, ◌++◌}
use Prim.Native.Nat.{ℕ, ◌+◌, ◌-◌, ◌*◌, ◌≤◌, ◌<◌}
use native.Mathlib.Nat.{add-zero}
use native.Mathlib.Numerals.{add-one}
use native.Mathlib.Omega.{arith}
use lib.ListN.{get_or, take, drop, length-append, length-drop, drop_of_length-le}
use lib.Seq.{drop-cons, drop-drop, get_or-drop, length-take-le}
use Rattle.terms.specs.Choice.{∣◌∣}
use Rattle.terms.specs.declared.refusals.Refusal.{Refusal}
use Rattle.figures.specs.Directory.{Directory}
use Rattle.figures.specs.Request.{request}
use Rattle.figures.specs.Run.{Tally, noted, run_from}
use Rattle.result.specs.declared.Request.{Request as Written}
use Rattle.result.specs.Put.{Put}
use Rattle.result.specs.Promises.{line_for, WroteRequest}
use Rattle.result.proofs.Putting.{none_put, both, put_as}
use Rattle.scoring.specs.Scored.{ledger_line, ledger_lines}
use Rattle.scoring.specs.Ready.{Request, LinePut}
use Rattle.scoring.proofs.Writing.{text_written, text_over, part_put}

-- Four words an answer.
pub four_words : (t : Tally) (trace : List ℕ) (d : Directory) → ∣ (run_from t trace d).answers ∣ ≡ 4 * ∣ trace ∣
unfolding run_from
four_words t [] d = refl
four_words t (x ∷ trace) d =
    let s = request x d in
    let rest = four_words (noted s t) trace s.dir in
    simp length-append (omega (arith, rest))

-- The number of request i, counted from 0, and the places of its answer's words.
pub record AnswerPlaces (i number kind evicted list moves : ℕ) : Type 0 where
  pub number_is : number ≡ i + 1
  pub kind_at : kind ≡ 4 * i
  pub evicted_at : evicted ≡ 4 * i + 1
  pub list_at : list ≡ 4 * i + 2
  pub moves_at : moves ≡ 4 * i + 3

-- One line, written into the 256 bytes from a place on.
module _ {i at : ℕ} {pages answers out : List ℕ} (h : Request i at pages answers out) where
  abbrev written : ℕ → ℕ → ℕ → ℕ → ℕ → Written
  written number kind evicted list moves =
      let word : ℕ → ℕ = λ place. get_or answers place 0 in
      record {
        request = number;
        page = get_or pages i 0;
        kind = word kind;
        evicted = word evicted;
        list = word list;
        moves = word moves;
      }

  its_line : {number kind evicted list moves : ℕ} → AnswerPlaces i number kind evicted list moves
      → ledger_line (i + 1) (get_or pages i 0) (drop (4 * i) answers) ≡ line_for (written number kind evicted list moves)
  its_line p = simp (p.number_is, p.kind_at, p.evicted_at, p.list_at, p.moves_at, get_or-drop, add-zero)

  -- As many bytes as the code lends, from the place on to the place and 256.
  abbrev lent : ℕ
  lent = at + 256 - at

  room : 256 ≤ ∣ take lent (drop at out) ∣
  room =
      let long = length-take-le lent (drop at out) (omega (arith, h.out_fits, length-drop at out)) in
      omega (arith, long)

  pub line_written : (request : Written) {r : Result ℕ Refusal} {part : List ℕ}
      → WroteRequest request (take lent (drop at out)) r part → IsOk r
  line_written request wrote = text_written (line_for request) (take lent (drop at out)) room wrote

  pub line_put : {number kind evicted list moves : ℕ} {r : Result ℕ Refusal} {count : ℕ} {part : List ℕ}
      → WroteRequest (written number kind evicted list moves) (take lent (drop at out)) r part → r ≡ Ok count
      → AnswerPlaces i number kind evicted list moves → ∣ part ∣ ≡ ∣ take lent (drop at out) ∣
      → LinePut i at pages answers out (at + count) (take at out ++ (part ++ drop lent (drop at out)))
  line_put {number} {kind} {evicted} {list} {moves} {part = part} wrote is places same =
      let line = line_for (written number kind evicted list moves) in
      let over = text_over line (take lent (drop at out)) room wrote is in
      let put = part_put out line part at lent (omega (arith, h.out_fits)) over same in
      record { line_put = put_as (its_line places) put.is_put; not_far = omega (arith, put.not_far) }

-- After i lines the bytes are `w`, up to a place: what is left to put from here is the whole from the start.
pub record LedgerMidway (out : List ℕ) (at : ℕ) (pages answers : List ℕ) (i : ℕ) (w : List ℕ) (place : ℕ) : Type 0 where
  pub inside : i ≤ ∣ pages ∣
  pub not_far : place ≤ 256 * (i + 1)
  pub as_long : ∣ w ∣ ≡ ∣ out ∣
  pub comes_to : (w' : List ℕ) (next : ℕ)
      → Put w place (ledger_lines (i + 1) (drop i pages) (drop (4 * i) answers)) w' next
      → Put out at (ledger_lines 1 pages answers) w' next

module _ (out : List ℕ) (at : ℕ) (pages answers : List ℕ) where
  pub begins : at ≤ 256 → LedgerMidway out at pages answers 0 out at
  begins near = record {
    inside = omega arith;
    not_far = omega arith;
    as_long = refl;
    comes_to = λ w' next h. h;
  }

  module _ {i : ℕ} {w : List ℕ} {place : ℕ} (m : LedgerMidway out at pages answers i w place) where
    next_line : i < ∣ pages ∣ → ledger_lines (i + 1) (drop i pages) (drop (4 * i) answers)
        ≡ ledger_line (i + 1) (get_or pages i 0) (drop (4 * i) answers)
        ++ ledger_lines (i + 1 + 1) (drop (i + 1) pages) (drop (4 * (i + 1)) answers)
    unfolding ledger_lines
    next_line more =
        let four : 4 * (i + 1) ≡ 4 * i + 4 = omega arith in
        rw (drop-cons pages i 0 more, four, drop-drop, add-one i)

    pub goes-on : i < ∣ pages ∣ → {w' : List ℕ} {next : ℕ} → LinePut i place pages answers w next w'
        → LedgerMidway out at pages answers (i + 1) w' next
    goes-on more h = record {
      inside = omega arith;
      not_far = omega (arith, m.not_far, h.not_far);
      as_long = h.line_put.as_long ∙ m.as_long;
      comes_to = λ w'' last rest. m.comes_to w'' last (rw (next_line more) (both h.line_put rest));
    }

    pub ends : ∣ pages ∣ ≤ i → Put out at (ledger_lines 1 pages answers) w place
    unfolding ledger_lines
    ends over = m.comes_to w place (rw (drop_of_length-le pages over) none_put)
