-- What the program prints, by the answer of the reader: the page lines, or the two lines of a refusal.
use Rattle.std.specs.Prelude.{Result, Ok, Err}
use mathlib.Core.Path.{◌≡◌, refl, ap, ◌∙◌}
use mathlib.Core.List.{List}
use Prim.Native.Nat.{ℕ, ◌≤◌, ◌<◌}
use native.Mathlib.Nat.{zero-add}
use native.Mathlib.Omega.{arith}
use lib.ListN.{take, drop, length-append}
use lib.Seq.{take-append_seam}
use borrow.Author.Rules.{rules}
use borrow.Author.Tests.{lt-ltb, le-ltb}
use Rattle.terms.specs.Choice.{∣◌∣}
use Rattle.terms.specs.Refusals.{number_of, number_in}
use Rattle.terms.specs.declared.refusals.Refusal.{Refusal}
use Rattle.terms.specs.declared.refusals.RefusedAt.{RefusedAt}
use Rattle.terms.proofs.Numbers.{not_accepted}
use Rattle.sheets.specs.Result.{refused_sheet}
use Rattle.sheets.specs.Refusals.{over}
use Rattle.traces.specs.Trace.{Pages, taken, refused_at, pages_of}
use Rattle.traces.specs.Refusals.{answer, page_lines, printed_pages, printed}
use Rattle.traces.proofs.Taken.{pages_in_range, refusals_have_numbers}
use Rattle.result.specs.Put.{Put}
use Rattle.result.specs.Promises.{count_in, on_write_text, WroteRefusal}
use Rattle.result.proofs.Putting.{put_over}
use Rattle.council.specs.Promises.{TakenAs, PagesTaken, on_answer, PagesAnswered}
use Rattle.council.proofs.Taking.{by_trace}

-- The pages of an accepted trace, in front of the words.
pub record Accepted (s : List ℕ) (unit count : ℕ) (w : List ℕ) : Type 0 where
  pub pages : List ℕ
  pub is_taken : pages_of unit s ≡ taken pages
  pub in_front : take count w ≡ pages
  pub inside : count ≤ ∣ w ∣
  pub at_most : count ≤ 1000

module _ (s : List ℕ) (unit : ℕ) (w out : List ℕ) where
  pub few_words : ∣ w ∣ < 1000 → PagesAnswered s unit w out (Err Refusal.BufferTooShort) w out
  unfolding on_answer
  few_words short = rw (lt-ltb ∣ w ∣ 1000 short) (search rules)

  module _ (room : 1000 ≤ ∣ w ∣) where
    pub few_bytes : ∣ out ∣ < 16000 → PagesAnswered s unit w out (Err Refusal.BufferTooShort) w out
    unfolding on_answer
    few_bytes short = rw (le-ltb ∣ w ∣ 1000 room, lt-ltb ∣ out ∣ 16000 short) (search rules)

    pub accepted : {count : ℕ} {w₁ : List ℕ} → PagesTaken s unit w (Ok count) w₁ → Accepted s unit count w₁
    accepted {count} {w₁} took = go (pages_of unit s) refl (rw (by_trace s unit w room) at took)
      where
        go : (ps : Pages) → pages_of unit s ≡ ps → TakenAs (answer ps w) (Ok count) w₁ → Accepted s unit count w₁
        go (taken pages) is h = record {
          pages = pages;
          is_taken = is;
          in_front = rw (h.count_is, h.words_are) (take-append_seam pages (drop ∣ pages ∣ w));
          inside = omega (arith, h.count_is, ap ∣◌∣ h.words_are, length-append pages (drop ∣ pages ∣ w));
          at_most = omega (arith, h.count_is, (pages_in_range unit s pages is).pages_at_most);
        }
        go (refused_at number line) is h =
            absurd (omega (arith, h.number_is, refusals_have_numbers unit s number line is))

    module _ {r : Result ℕ RefusedAt} {w₁ : List ℕ} (took : PagesTaken s unit w r w₁) (room_out : 16000 ≤ ∣ out ∣) where
      -- What is printed stands over the bytes, and the words are the reader's.
      by_text : (text : List ℕ) {written : Result ℕ Refusal} {out' : List ℕ} → printed unit s ≡ text
          → number_in written ≡ 0 → count_in written ≡ ∣ text ∣ → out' ≡ over text out
          → PagesAnswered s unit w out written w₁ out'
      unfolding on_answer
      by_text text is number count bytes =
          rw (le-ltb ∣ w ∣ 1000 room, le-ltb ∣ out ∣ 16000 room_out, is) (record {
            number_is = number;
            count_is = count;
            words_are = took.words_are;
            bytes_are = bytes;
            count_fits = omega (arith, ap ∣◌∣ bytes, length-append text (drop ∣ text ∣ out));
          })

    pub pages_printed : {count : ℕ} {w₁ : List ℕ} → PagesTaken s unit w (Ok count) w₁ → 16000 ≤ ∣ out ∣
        → {n : ℕ} {out' : List ℕ} → Put out 0 (page_lines (take count w₁)) out' n
        → PagesAnswered s unit w out (Ok n) w₁ out'
    unfolding printed
    pages_printed took room_out put =
        let a = accepted took in
        let text = ap page_lines a.in_front in
        by_text took room_out (page_lines a.pages) (ap printed_pages a.is_taken) refl
        (put.next_is ∙ zero-add _ ∙ ap ∣◌∣ text) (put_over put ∙ ap (λ t. over t out) text)

    pub refusal_printed : {refused : RefusedAt} {w₁ : List ℕ} → PagesTaken s unit w (Err refused) w₁ → 16000 ≤ ∣ out ∣
        → {number : ℕ} {written : Result ℕ Refusal} {out' : List ℕ} → number ≡ number_of refused.refusal
        → WroteRefusal number refused.line out written out' → PagesAnswered s unit w out written w₁ out'
    unfolding printed on_write_text
    refusal_printed {refused} {w₁} took room_out {number} {written} {out'} told wrote =
        go (pages_of unit s) refl (rw (by_trace s unit w room) at took)
      where
        go : (ps : Pages) → pages_of unit s ≡ ps → TakenAs (answer ps w) (Err refused) w₁
            → PagesAnswered s unit w out written w₁ out'
        go (taken pages) is h = absurd (not_accepted refused.refusal h.number_is)
        go (refused_at number' line) is h =
            let says = rw (told, h.number_is, h.line_is, le-ltb ∣ out ∣ 256 (omega arith)) at wrote in
            by_text took room_out (refused_sheet number' line) (ap printed_pages is)
            says.number_is says.count_is says.bytes_are
