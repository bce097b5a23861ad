-- The cursor's answer: where the line that starts at a place of the sheet is closed.
-- The look-up's spans: the refusal or the places as the definition has them, and the places within the sheet.
use Rattle.std.specs.Prelude.{◌≡◌, List, ℕ, ◌+◌, ◌≤◌, drop, ltb, if◌then◌else◌, Option, Some, None, Result, MatchResult}
use Rattle.terms.specs.Choice.{∣◌∣}
use Rattle.terms.specs.Refusals.{number_in}
use Rattle.terms.specs.declared.refusals.Refusal.{Refusal}
use Rattle.text.specs.Bytes.{index_of}
use Rattle.sheets.specs.Lines.{line_feed}
use Rattle.sheets.specs.Refusals.{Found}
use Rattle.lines.specs.declared.Span.{Span}

abbrev pub line_at : List ℕ → ℕ → Option ℕ
line_at s at =
    let n = index_of line_feed (drop at s) in
    if ltb (at + n) ∣ s ∣ then Some (at + n) else None

-- A span that the look-up's definition finds, and that lies in the sheet.
pub record FoundSpan (s : List ℕ) (found : Found) (span : Span) : Type 0 where
  pub start_is : span.start ≡ found.start
  pub stop_is : span.stop ≡ found.stop
  pub ordered : span.start ≤ span.stop
  pub inside : span.stop ≤ ∣ s ∣

-- "zeros elsewhere", and "an empty part": what the definition finds beside a refusal is at the sheet's front.
abbrev pub NoPart : Found → Type 0
NoPart found = (found.start ≡ 0) × (found.stop ≡ 0)

-- The span; or the refusal that the definition gives, where it finds no part.
pub record SpanOf (s : List ℕ) (found : Found) (r : Result Span Refusal) : Type 0 where
  pub number_is : number_in r ≡ found.number
  pub span_is : MatchResult r (FoundSpan s found) (λ refusal. NoPart found)
