-- A line's answer by its value: good where the value means a number, else the refusal that it is wrong by.
use Rattle.std.specs.Prelude.{Result, Ok, Err}
use Rattle.std.specs.Borrow.{Bor}
use mathlib.Core.Path.{◌≡◌, refl, sym, ap, subst, ◌∙◌}
use mathlib.Core.List.{List}
use Prim.Native.Nat.{ℕ}
use lib.ListN.{drop}
use Rattle.terms.specs.Refusals.{number_of}
use Rattle.terms.specs.declared.refusals.Refusal.{Refusal}
use Rattle.terms.specs.declared.refusals.RefusedAt.{RefusedAt}
use Rattle.sheets.specs.Number.{Value, means, wrong}
use Rattle.sheets.specs.Lines.{Reading, lines, before, under}
use Rattle.bid.specs.Answers.{KeyedAt, ReadsLine, at_line}

module _ {s : List ℕ} {at : ℕ} {key : List ℕ} (meant : List ℕ → Value) where
  pub no_line_read : {refusal : Refusal} → KeyedAt s at key (Err refusal)
      → ReadsLine s at (under key meant (lines (drop at s))) (Err refusal)
  no_line_read h = record { tells = sym (h.under_key meant); ahead = tt }

  module _ {value : Bor (List ℕ)} {next : ℕ} (found : KeyedAt s at key (Ok (value, next))) where
    value_decides : (v : Value) → meant value.now ≡ v
        → before v (lines (drop next s)) ≡ under key meant (lines (drop at s))
    value_decides v so = sym (found.under_key meant ∙ ap (λ w. before w (lines (drop next s))) so)

    pub good_read : {n : ℕ} → meant value.now ≡ means n
        → ReadsLine s at (under key meant (lines (drop at s))) (Ok (n, next))
    good_read {n} so = record { tells = value_decides (means n) so; ahead = found.ahead }

    pub wrong_read : {refusal : Refusal} → meant value.now ≡ wrong (number_of refusal)
        → ReadsLine s at (under key meant (lines (drop at s))) (Err refusal)
    wrong_read {refusal} so = record { tells = value_decides (wrong (number_of refusal)) so; ahead = tt }

-- The three answers, for each line's function.
pub ruleset readings = (no_line_read, good_read, wrong_read)

-- A LINE'S ANSWER WITH ITS NUMBER

abbrev pub read_in : Result (ℕ × ℕ) RefusedAt → Result (ℕ × ℕ) Refusal
read_in (Ok read) = Ok read
read_in (Err e) = Err e.refusal

abbrev pub line_in : ℕ → Result (ℕ × ℕ) RefusedAt → ℕ
line_in n (Ok read) = n
line_in n (Err e) = e.line

pub record LineRead (s : List ℕ) (at : ℕ) (reading : Reading) (n : ℕ) (r : Result (ℕ × ℕ) RefusedAt) : Type 0 where
  pub reads : ReadsLine s at reading (read_in r)
  pub line_is : line_in n r ≡ n

pub line_read : {s : List ℕ} {at : ℕ} {reading : Reading} {r : Result (ℕ × ℕ) Refusal} (n : ℕ)
    → ReadsLine s at reading r → LineRead s at reading n (at_line n r)
line_read {r = Ok read} n h = record { reads = h; line_is = refl }
line_read {r = Err refusal} n h = record { reads = h; line_is = refl }

-- Where the answer came from is one thing and what it is another.
pub line_came : {s : List ℕ} {at : ℕ} {reading : Reading} {r : Result (ℕ × ℕ) Refusal} (n : ℕ)
    {x y : Result (ℕ × ℕ) RefusedAt}
    → ReadsLine s at reading r → x ≡ at_line n r → x ≡ y → LineRead s at reading n y
line_came {s} {at} {reading} n h is was = subst (LineRead s at reading n) (sym is ∙ was) (line_read n h)
