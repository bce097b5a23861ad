-- A line under its key, by the cursor's answer: the value's bytes and the place of the next line, or no such line.
use Rattle.std.specs.Prelude.{Ok, Err}
use Rattle.std.specs.Borrow.{Bor}
use mathlib.Core.Path.{◌≡◌, sym, ap}
use mathlib.Core.Bool.{Bool, true, false}
use mathlib.Core.List.{List, [], ◌∷◌}
use Prim.Native.Nat.{ℕ, suc, ◌+◌, ◌-◌}
use native.Mathlib.Omega.{arith}
use lib.Dec.{eqb}
use lib.ListN.{length, take, drop}
use borrow.Author.Tests.{ne_eqb}
use Rattle.terms.specs.Choice.{∣◌∣, same}
use Rattle.terms.specs.declared.refusals.Refusal.{Refusal}
use Rattle.text.specs.Text.{starts}
use Rattle.sheets.specs.Lines.{under}
use Rattle.lines.proofs.Cursor.{ClosedAt, MissingAt, ended, not_closed, closed_line, missing_line}
use Rattle.bid.specs.Answers.{KeyedAt}

module _ {s : List ℕ} {at stop : ℕ} (closed : ClosedAt s at stop) where
  -- The line itself.
  abbrev l : List ℕ
  l = take (stop - at) (drop at s)

  module _ {key : List ℕ} where
    pub other_key : starts key l ≡ false → KeyedAt s at key (Err Refusal.NoSuchLine)
    other_key test = record { under_key = λ meant. rw (closed.reads, test); ahead = tt }

    pub its_key : {value : Bor (List ℕ)} → starts key l ≡ true → value.now ≡ drop ∣ key ∣ l
        → KeyedAt s at key (Ok (value, stop + 1))
    its_key test value_is = record {
      under_key = λ meant. rw (closed.reads, test, value_is);
      ahead = (omega (arith, closed.from), omega (arith, closed.inside));
    }

pub no_line : {s : List ℕ} {at : ℕ} {key : List ℕ} → MissingAt s at → KeyedAt s at key (Err Refusal.NoSuchLine)
no_line {key = key} (ended past none) = record { under_key = λ meant. ap (under key meant) none; ahead = tt }
no_line {key = key} (not_closed some none) = record { under_key = λ meant. ap (under key meant) none; ahead = tt }

-- Bytes that are none, as the policy's value asks first.
pub blank : (s : List ℕ) (r : Bool) → r ≡ eqb (length s) 0 → same s [] ≡ r
blank [] r is = sym is
blank (b ∷ s) r is = rw is (sym (ne_eqb (suc (length s)) 0 (λ none. absurd (omega arith))))

-- By the cursor's answer, and then by the key.
pub ruleset keyed = (closed_line, missing_line, its_key, other_key, no_line)
