-- The promises of the writers, refusal by refusal in the order of document 01, and for an accepted call.
use Rattle.std.specs.Prelude.{Ok, Err}
use mathlib.Core.Path.{◌≡◌, refl, ◌∙◌}
use mathlib.Core.Bool.{true, false}
use mathlib.Core.List.{List}
use Prim.Native.Nat.{ℕ, ◌≤◌, ◌<◌}
use native.Mathlib.Nat.{zero-add}
use borrow.Author.Tests.{lt-ltb, le-ltb}
use Rattle.terms.specs.Choice.{∣◌∣}
use Rattle.terms.specs.Policies.{known_policy, number_of}
use Rattle.terms.specs.declared.policies.Policy.{Policy}
use Rattle.terms.specs.declared.refusals.Refusal.{Refusal}
use Rattle.sheets.specs.Result.{result_sheet}
use Rattle.sheets.specs.Refusals.{on_write}
use Rattle.result.specs.declared.Outcome.{Outcome}
use Rattle.result.specs.Put.{Put}
use Rattle.result.specs.Promises.{defined, WroteSheet, Wrote, on_write_text}
use Rattle.result.proofs.Putting.{put_over}

module _ (text out : List ℕ) where
  pub text_short : ∣ out ∣ < 256 → Wrote (on_write_text text out) (Err Refusal.BufferTooShort) out
  unfolding on_write_text
  text_short less =
      let test = lt-ltb ∣ out ∣ 256 less in
      record { number_is = rw test; count_is = rw test; bytes_are = rw test }

  pub text_written : {n : ℕ} {out' : List ℕ} → 256 ≤ ∣ out ∣ → Put out 0 text out' n
      → Wrote (on_write_text text out) (Ok n) out'
  unfolding on_write_text
  text_written enough put =
      let test = le-ltb ∣ out ∣ 256 enough in
      record {
        number_is = rw test;
        count_is = rw test (put.next_is ∙ zero-add ∣ text ∣);
        bytes_are = rw test (put_over put);
      }

-- The number of a policy is a known one.
known : (policy : Policy) → known_policy (number_of policy) ≡ true
known Policy.Car = refl
known Policy.Cart = refl
known Policy.Fifo = refl
known Policy.Clock = refl
known Policy.Lru = refl

pub numbered_known : (policy : Policy) {number : ℕ} → number_of policy ≡ number → known_policy number ≡ true
numbered_known policy is = rw (← is) (known policy)

module _ (o : Outcome) (out : List ℕ) where
  pub sheet_policy : known_policy o.policy ≡ false → WroteSheet o out (Err Refusal.PolicyNotKnown) out
  unfolding on_write
  sheet_policy not = record { number_is = rw not; count_is = rw not; bytes_are = rw not }

  -- Of a known policy the sheet is written as any text is.
  pub sheet_as_text : known_policy o.policy ≡ true
      → on_write (defined o) out ≡ on_write_text (result_sheet (defined o)) out
  unfolding on_write on_write_text
  sheet_as_text known = rw known

  module _ (known : known_policy o.policy ≡ true) where
    pub sheet_short : ∣ out ∣ < 256 → WroteSheet o out (Err Refusal.BufferTooShort) out
    sheet_short less = rw (sheet_as_text known) (text_short (result_sheet (defined o)) out less)

    pub sheet_written : {n : ℕ} {out' : List ℕ} → 256 ≤ ∣ out ∣ → Put out 0 (result_sheet (defined o)) out' n
        → WroteSheet o out (Ok n) out'
    sheet_written enough put = rw (sheet_as_text known) (text_written (result_sheet (defined o)) out enough put)
