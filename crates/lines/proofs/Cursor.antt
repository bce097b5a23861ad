-- What the cursor's answer says of the lines from its place on: a closed line and its end, or none that is closed.
use Rattle.std.specs.Prelude.{Option, Some, None}
use mathlib.Core.Path.{◌≡◌, refl, ap, subst, ◌∙◌}
use mathlib.Core.Bool.{Bool, true, false}
use mathlib.Core.List.{List}
use Prim.Native.Nat.{ℕ, ◌+◌, ◌-◌, ◌≤◌, ◌<◌}
use native.Mathlib.Omega.{arith}
use lib.ListN.{take, drop, length-drop, drop_of_length-le}
use lib.Seq.{drop-drop}
use lib.Dec.{ltb}
use borrow.Author.Tests.{ltb-true, ltb-false}
use Rattle.terms.specs.Choice.{∣◌∣}
use Rattle.terms.proofs.Choice.{by_test}
use Rattle.text.specs.Bytes.{index_of}
use Rattle.sheets.specs.Lines.{end, unclosed, line, line_feed, lines}
use Rattle.sheets.proofs.Places.{place_at_most}
use Rattle.sheets.proofs.Lines.{lines_closed, lines_unclosed}
use Rattle.lines.specs.Cursor.{line_at}

-- A line from `at` whose line feed stands at `stop`, and the lines behind it.
pub record ClosedAt (s : List ℕ) (at stop : ℕ) : Type 0 where
  pub from : at ≤ stop
  pub inside : stop < ∣ s ∣
  pub reads : lines (drop at s) ≡ line (take (stop - at) (drop at s)) (lines (drop (stop + 1) s))

-- No closed line from `at`: the sheet has ended, or no line feed follows.
pub data MissingAt (s : List ℕ) (at : ℕ) : Type 0 where
  ended : ∣ s ∣ ≤ at → lines (drop at s) ≡ end → MissingAt s at
  not_closed : at < ∣ s ∣ → lines (drop at s) ≡ unclosed → MissingAt s at

module _ (s : List ℕ) (at : ℕ) where
  -- How far the first line feed is from `at`.
  abbrev far : ℕ
  far = index_of line_feed (drop at s)

  closes : at + far < ∣ s ∣ → ClosedAt s at (at + far)
  closes h =
      let width : at + far - at ≡ far = omega arith in
      let onward : at + (far + 1) ≡ at + far + 1 = omega arith in
      record {
        from = omega arith;
        inside = h;
        reads =
            lines_closed (drop at s) (omega (arith, length-drop at s))
            ∙ rw (drop-drop, onward, width);
      }

  lacks : ∣ s ∣ ≤ at + far → MissingAt s at
  lacks h = by (ltb at ∣ s ∣) refl
    where
      by : (t : Bool) → ltb at ∣ s ∣ ≡ t → MissingAt s at
      by true test =
          let some = ltb-true at ∣ s ∣ test in
          let all = length-drop at s in
          let most = place_at_most line_feed (drop at s) in
          not_closed some (lines_unclosed (drop at s) (omega arith) (omega arith))
      by false test =
          let past = ltb-false at ∣ s ∣ test in ended past (ap lines (drop_of_length-le s {i = at} past))

  pub closed_line : (stop : ℕ) → line_at s at ≡ Some stop → ClosedAt s at stop
  closed_line stop =
      by_test (λ (l : Option ℕ). l ≡ Some stop → ClosedAt s at stop) (ltb (at + far) ∣ s ∣)
      (λ test is. subst (ClosedAt s at) (cc) (closes (ltb-true _ _ test)))
      (λ test is. let never : ◌≡◌ {A = ℕ} 0 1 = cc in absurd (omega arith))

  pub missing_line : line_at s at ≡ None → MissingAt s at
  missing_line =
      by_test (λ (l : Option ℕ). l ≡ None → MissingAt s at) (ltb (at + far) ∣ s ∣)
      (λ test is. let never : ◌≡◌ {A = ℕ} 0 1 = cc in absurd (omega arith))
      (λ test is. lacks (ltb-false _ _ test))
