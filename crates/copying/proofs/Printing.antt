-- What the program prints, by the copy's answer: the copy, or the two lines over bytes that a refused copy left alone.
use Rattle.std.specs.Prelude.{Result, Ok, Err}
use mathlib.Core.Path.{◌≡◌, refl, ap}
use mathlib.Core.List.{List}
use Prim.Native.Nat.{ℕ, ◌≤◌, ◌<◌}
use native.Mathlib.Omega.{arith}
use lib.ListN.{drop, length-append}
use borrow.Author.Rules.{rules}
use borrow.Author.Tests.{lt-ltb, le-ltb}
use Rattle.terms.specs.Choice.{∣◌∣}
use Rattle.terms.specs.Refusals.{number_of}
use Rattle.terms.proofs.Numbers.{not_accepted}
use Rattle.terms.specs.declared.refusals.Refusal.{Refusal}
use Rattle.terms.specs.declared.refusals.RefusedAt.{RefusedAt}
use Rattle.sheets.specs.Copy.{Copy, copy, not_copied, copy_of, printed_copy, copied}
use Rattle.sheets.specs.Result.{refused_sheet}
use Rattle.sheets.specs.Refusals as Sheets
use Rattle.sheets.specs.Refusals.{over, copied_into}
use Rattle.sheets.proofs.Copies.{not_copied_has_number}
use Rattle.result.specs.Promises.{Wrote, on_write_text, WroteRefusal}
use Rattle.copying.specs.Promises.{CopiedAs, SheetCopied, on_answer, CopyAnswered}
use Rattle.copying.proofs.Copying.{by_copy}

abbrev pub written : List ℕ → List ℕ → Sheets.Written
written text out = record { number = 0; count = ∣ text ∣; out = over text out }

module _ (s out : List ℕ) where
  pub none_printed : ∣ out ∣ < 16000 → CopyAnswered s out (Err Refusal.BufferTooShort) out
  unfolding on_answer
  none_printed short =
      record { wrote = rw (lt-ltb ∣ out ∣ 16000 short) (search rules); count_fits = omega arith }

  module _ (room : 16000 ≤ ∣ out ∣) where
    by_text : (text : List ℕ) {w : Result ℕ Refusal} {out' : List ℕ} → copied s ≡ text → Wrote (written text out) w out'
        → CopyAnswered s out w out'
    unfolding on_answer
    by_text text is wrote = record {
      wrote = rw (le-ltb ∣ out ∣ 16000 room, is) wrote;
      count_fits = omega (arith, wrote.count_is, ap ∣◌∣ wrote.bytes_are, length-append text (drop ∣ text ∣ out));
    }

    pub copy_printed : {n : ℕ} {out₁ : List ℕ} → SheetCopied s out (Ok n) out₁ → CopyAnswered s out (Ok n) out₁
    unfolding copied
    copy_printed {n} {out₁} copies = go (copy_of s) refl (rw (by_copy s out room) at copies)
      where
        go : (c : Copy) → copy_of s ≡ c → CopiedAs (copied_into c out) (Ok n) out₁ → CopyAnswered s out (Ok n) out₁
        go (copy t) is h = by_text t (ap printed_copy is) (record {
          number_is = refl;
          count_is = h.count_is;
          bytes_are = h.bytes_are;
        })
        go (not_copied number line) is h =
            absurd (omega (arith, h.number_is, not_copied_has_number s number line is))

    pub refusal_printed : (e : RefusedAt) {out₁ : List ℕ} → SheetCopied s out (Err e) out₁
        → {number : ℕ} {w : Result ℕ Refusal} {out' : List ℕ} → number ≡ number_of e.refusal
        → WroteRefusal number e.line out₁ w out' → CopyAnswered s out w out'
    unfolding copied on_write_text
    refusal_printed e {out₁} copies {number} {w} {out'} told wrote =
        go (copy_of s) refl (rw (by_copy s out room) at copies)
      where
        go : (c : Copy) → copy_of s ≡ c → CopiedAs (copied_into c out) (Err e) out₁ → CopyAnswered s out w out'
        go (copy t) is h = absurd (not_accepted e.refusal h.number_is)
        go (not_copied number' line) is h =
            by_text (refused_sheet number' line) (ap printed_copy is)
            (rw (told, h.number_is, h.line_is, h.bytes_are, le-ltb ∣ out ∣ 256 (omega arith)) at wrote)
