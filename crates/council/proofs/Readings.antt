-- A line's answer, by its record as the code knows it; and what the trace from the line on comes to by that answer.
use Rattle.std.specs.Prelude.{Result, Ok, Err, Some, None}
use mathlib.Core.Path.{◌≡◌, refl, ap, ◌∙◌}
use mathlib.Core.List.{List, []}
use Prim.Native.Nat.{ℕ, suc, ◌+◌, ◌-◌, ◌≤◌, ◌<◌, ◌^◌, min}
use native.Mathlib.Omega.{arith}
use lib.ListN.{take, drop}
use borrow.Author.Tests.{eq-eqb, ne_eqb}
use Rattle.terms.specs.Choice.{∣◌∣}
use Rattle.terms.specs.Refusals.{no_record}
use Rattle.terms.specs.declared.refusals.Refusal.{Refusal}
use Rattle.sheets.specs.Lines.{lines}
use Rattle.traces.specs.Record as Line
use Rattle.traces.specs.Record.{read, write, not_in_form, record_of}
use Rattle.traces.specs.Trace as Trace
use Rattle.traces.specs.Trace.{yields, wrong, counted, of_record, read_line, yielded, onto, pages_from}
use Rattle.terms.proofs.Rows.{numbers_length}
use Rattle.lines.proofs.Cursor.{ClosedAt, MissingAt, ended, not_closed}
use Rattle.records.specs.Answers.{beyond, up_to_beyond}
use Rattle.records.specs.declared.Record.TheVariants.{Read, Write}
use Rattle.council.specs.Answers.{told, Fits, LineRead}
use Rattle.council.specs.declared.record_lines.Yielded.{Yielded}
use Rattle.council.proofs.Counting.{counted_alike}

-- BY THE RECORD

module _ (unit n : ℕ) where
  -- A read as the code knows it: by its unit it counts or does not, with numbers that come to the same.
  pub record ReadAs (r : Line.Record) (of lba size : ℕ) : Type 0 where
    pub lba_known : lba ≤ beyond
    pub size-known : size ≤ beyond
    pub counts : of ≡ unit → counted n lba size ≡ of_record unit n r
    pub does_not_count : (of ≡ unit → ⊥) → yields [] ≡ of_record unit n r

  pub a_read : unit < 2 ^ 32 → (r : Line.Record) {of lba size : ℕ} → Some (Read of lba size) ≡ up_to_beyond r
      → ReadAs r of lba size
  a_read small (read of' lba' size') {of} {lba} {size} is =
      let of_is : of ≡ min beyond of' = cc in
      let lba_is : lba ≡ min beyond lba' = cc in
      let size_is : size ≡ min beyond size' = cc in
      record {
        lba_known = omega arith;
        size-known = omega arith;
        counts = λ same. rw (eq-eqb of' unit (omega arith), lba_is, size_is) (counted_alike n lba' size');
        does_not_count = λ other. rw (ne_eqb of' unit (omega arith));
      }
  a_read small (write of' lba' size') is = absurd cc
  a_read small not_in_form is = absurd cc

  pub a_write : (r : Line.Record) → Some Write ≡ up_to_beyond r → yields [] ≡ of_record unit n r
  a_write (read of lba size) is = absurd cc
  a_write (write of lba size) is = refl
  a_write not_in_form is = absurd cc

  pub no-record : (r : Line.Record) → None ≡ up_to_beyond r → wrong no_record ≡ of_record unit n r
  no-record (read of lba size) is = absurd cc
  no-record (write of lba size) is = absurd cc
  no-record not_in_form is = refl

-- THE TRACE FROM THE LINE ON

module _ {s : List ℕ} {at stop : ℕ} (closed : ClosedAt s at stop) (unit n : ℕ) where
  abbrev l : List ℕ
  l = take (stop - at) (drop at s)

  -- What the line comes to, and those behind it.
  from_line : {r : Trace.Reading} → r ≡ of_record unit n (record_of l) → (k : ℕ) → pages_from unit k n (lines (drop at s))
      ≡ onto (suc k) r (pages_from unit (suc k) (n + ∣ yielded r ∣) (lines (drop (stop + 1) s)))
  unfolding read_line
  from_line is k = rw (closed.reads, is)

  pub line_read : (r : Result Yielded Refusal) → told r ≡ of_record unit n (record_of l) → Fits n (stop + 1) r
      → LineRead s at unit n r
  line_read (Ok y) is fits = record {
    goes-on = λ k. from_line is k ∙ rw (numbers_length y.first y.count, fits.2);
    ahead = (omega (arith, closed.from), omega (arith, closed.inside), fits.0, fits.1);
  }
  line_read (Err refusal) is fits = record { goes-on = from_line is; ahead = tt }

  pub no_pages_read : {y : Yielded} → y ≡ record { first = 0; count = 0; next = stop + 1 } → n ≤ 1000
      → yields [] ≡ of_record unit n (record_of l) → LineRead s at unit n (Ok y)
  no_pages_read none few is =
      rw none (line_read (Ok (record { first = 0; count = 0; next = stop + 1 })) is (omega arith, omega arith, refl))

pub missing_read : {s : List ℕ} {at unit n : ℕ} → at < ∣ s ∣ → MissingAt s at → LineRead s at unit n (Err Refusal.NoRecord)
missing_read inside (ended past is) = absurd (omega arith)
missing_read {unit = unit} {n} inside (not_closed some is) =
    record { goes-on = λ k. ap (pages_from unit k n) is; ahead = tt }
