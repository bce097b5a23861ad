-- What the writers leave of lent bytes that have room: the text over them; and what a part's text is to the whole.
use Rattle.std.specs.Prelude.{Result, Ok}
use Rattle.std.specs.Result.{IsOk}
use mathlib.Core.Path.{◌≡◌, sym, ap, ◌∙◌}
use mathlib.Core.Bool.{true}
use mathlib.Core.List.{List, ◌++◌, append_assoc}
use Prim.Native.Nat.{ℕ, ◌+◌, ◌*◌, ◌≤◌, ◌<◌}
use native.Mathlib.Nat.{mul-le-mul_right}
use native.Mathlib.Omega.{arith}
use lib.ListN.{take, drop, length-append, length-drop, take-append-drop}
use lib.Seq.{paste, length-take-le, take-length, drop-append-le, drop-drop}
use borrow.Author.Tests.{le-ltb}
use Rattle.terms.specs.Choice.{∣◌∣}
use Rattle.terms.specs.Policies.{known_policy}
use Rattle.terms.specs.declared.refusals.Refusal.{Refusal}
use Rattle.terms.proofs.Numbers.{accepted_is_ok}
use Rattle.sheets.specs.Result.{result_sheet}
use Rattle.sheets.specs.Refusals.{over}
use Rattle.result.specs.declared.Outcome.{Outcome}
use Rattle.result.specs.Put.{Put}
use Rattle.result.specs.Promises.{defined, count_in, Wrote, on_write_text, WroteSheet}
use Rattle.result.proofs.Putting.{pasted}
use Rattle.result.proofs.Refused.{sheet_as_text}
use Rattle.scoring.specs.Ready.{TextOver}

-- A text over lent bytes is no longer than they are.
pub over_fits : {text out : List ℕ} {count : ℕ} {out' : List ℕ} → TextOver text out count out' → count ≤ ∣ out' ∣
over_fits {text} {out} h = omega (arith, h.count_is, ap ∣◌∣ h.out_is, length-append text (drop ∣ text ∣ out))

module _ (text out : List ℕ) (room : 256 ≤ ∣ out ∣) where
  pub text_written : {out' : List ℕ} {r : Result ℕ Refusal} → Wrote (on_write_text text out) r out' → IsOk r
  unfolding on_write_text
  text_written {r = r} h = accepted_is_ok r (rw (le-ltb ∣ out ∣ 256 room) at h.number_is)

  pub text_over : {out' : List ℕ} {r : Result ℕ Refusal} {count : ℕ} → Wrote (on_write_text text out) r out'
      → r ≡ Ok count → TextOver text out count out'
  unfolding on_write_text
  text_over h is =
      let test = le-ltb ∣ out ∣ 256 room in
      record { count_is = ap count_in (sym is) ∙ (rw test at h.count_is); out_is = rw test at h.bytes_are }

module _ (o : Outcome) (out : List ℕ) (known : known_policy o.policy ≡ true) (room : 256 ≤ ∣ out ∣) where
  pub sheet_written : {out' : List ℕ} {r : Result ℕ Refusal} → WroteSheet o out r out' → IsOk r
  sheet_written h = text_written (result_sheet (defined o)) out room (rw (sheet_as_text o out known) at h)

  pub sheet_over : {out' : List ℕ} {r : Result ℕ Refusal} {count : ℕ} → WroteSheet o out r out'
      → r ≡ Ok count → TextOver (result_sheet (defined o)) out count out'
  sheet_over h is = text_over (result_sheet (defined o)) out room (rw (sheet_as_text o out known) at h) is

-- A text that has room in a buffer's first k bytes stands over the whole buffer as over those.
over_part : (text l : List ℕ) (k : ℕ) → ∣ over text (take k l) ∣ ≡ ∣ take k l ∣
    → over text (take k l) ++ drop k l ≡ over text l
over_part text l k same =
    let n = ∣ text ∣ in
    let fits : n ≤ ∣ take k l ∣ = omega (arith, length-append text (drop n (take k l))) in
    append_assoc text (drop n (take k l)) (drop k l)
    ∙ ap (λ (rest : List ℕ). text ++ rest)
    (sym (drop-append-le n (take k l) (drop k l) fits) ∙ ap (drop n) (take-append-drop k l))

-- A text over the k bytes from a place on is put there, and they have room for it.
pub record PutWithin (w : List ℕ) (at : ℕ) (text : List ℕ) (k : ℕ) (w' : List ℕ) (next : ℕ) : Type 0 where
  pub is_put : Put w at text w' next
  pub not_far : next ≤ at + k

module _ (w text part : List ℕ) (at k : ℕ) (room : at + k ≤ ∣ w ∣) {count : ℕ}
    (h : TextOver text (take k (drop at w)) count part) (same : ∣ part ∣ ≡ ∣ take k (drop at w) ∣) where
  fits : ∣ text ∣ ≤ k
  fits =
      let long = length-take-le k (drop at w) (omega (arith, length-drop at w)) in
      omega (arith, long, same, ap ∣◌∣ h.out_is, length-append text (drop ∣ text ∣ (take k (drop at w))))

  pasted_back : take at w ++ (part ++ drop k (drop at w)) ≡ paste w at text ∣ text ∣
  pasted_back =
      ap (λ (p : List ℕ). take at w ++ (p ++ drop k (drop at w))) h.out_is
      ∙ ap (λ (rest : List ℕ). take at w ++ rest) (over_part text (drop at w) k (sym (ap ∣◌∣ h.out_is) ∙ same))
      ∙ rw (take-length text, drop-drop, append_assoc)

  pub part_put : PutWithin w at text k (take at w ++ (part ++ drop k (drop at w))) (at + count)
  part_put = record {
    is_put = rw (pasted_back, h.count_is) (pasted (record { fits = omega (arith, fits) }));
    not_far = omega (arith, h.count_is, fits);
  }

-- A 64-bit wait holds any misses at any cost.
pub wait_fits : (misses cost : ℕ) → misses < 4294967296 → cost < 4294967296 → misses * cost < 18446744073709551616
wait_fits misses cost few cheap =
    let most : misses ≤ 4294967295 = omega arith in omega (arith, mul-le-mul_right cost most)
