-- The promises of the writers: the answer and every lent byte afterwards, for every input, refused ones too.
-- Each is fixed by a total function; proofs/Determined shows that two outcomes it allows are equal.
use Rattle.std.specs.Prelude.{◌≡◌, List, ℕ, ltb, if◌then◌else◌, Result, Ok, Err}
use Rattle.terms.specs.Choice.{∣◌∣}
use Rattle.terms.specs.Refusals.{accepted, buffer_too_short, number_in}
use Rattle.terms.specs.declared.refusals.Refusal.{Refusal}
use Rattle.sheets.specs.Result as Sheet
use Rattle.sheets.specs.Result.{refused_sheet}
use Rattle.sheets.specs.Refusals as Sheets
use Rattle.sheets.specs.Refusals.{over, on_write}
use Rattle.result.specs.declared.Outcome.{Outcome}
use Rattle.result.specs.declared.Request.{Request}
use Rattle.result.specs.Ledger.{request_line}

-- `defined` reads the code's struct as the outcome of the definitions.
abbrev pub defined : Outcome → Sheet.Outcome
defined o = record {
  policy = o.policy;
  pages = o.pages;
  requests = o.requests;
  hits = o.hits;
  misses = o.misses;
  evictions = o.evictions;
  steps = o.steps;
  wait = o.wait;
}

-- `line_for` reads the code's struct as the line of the definitions.
abbrev pub line_for : Request → List ℕ
line_for r = request_line r.request r.page r.kind r.evicted r.list r.moves

-- The count of bytes in the code's answer; none where it is refused.
abbrev pub count_in : {E : Type 0} → Result ℕ E → ℕ
count_in (Ok count) = count
count_in (Err refusal) = 0

-- The code's answer and the lent bytes afterwards are what a definition gives.
pub record Wrote (w : Sheets.Written) (r : Result ℕ Refusal) (out' : List ℕ) : Type 0 where
  pub number_is : number_in r ≡ w.number
  pub count_is : count_in r ≡ w.count
  pub bytes_are : out' ≡ w.out

-- write(out, outcome) -> Result<usize, Refusal>
abbrev pub WroteSheet : Outcome → List ℕ → Result ℕ Refusal → List ℕ → Type 0
WroteSheet o out = Wrote (on_write (defined o) out)

-- Any text into the lent bytes; refusal 6.
unfoldable pub on_write_text : List ℕ → List ℕ → Sheets.Written
on_write_text text out =
    if ltb ∣ out ∣ 256 then record { number = buffer_too_short; count = 0; out = out }
    else record { number = accepted; count = ∣ text ∣; out = over text out }

-- write_refusal(out, number, line) -> Result<usize, Refusal>
abbrev pub on_write_refusal : ℕ → ℕ → List ℕ → Sheets.Written
on_write_refusal number line = on_write_text (refused_sheet number line)

abbrev pub WroteRefusal : ℕ → ℕ → List ℕ → Result ℕ Refusal → List ℕ → Type 0
WroteRefusal number line out = Wrote (on_write_refusal number line out)

-- write_request(out, request) -> Result<usize, Refusal>
abbrev pub on_write_request : Request → List ℕ → Sheets.Written
on_write_request request = on_write_text (line_for request)

abbrev pub WroteRequest : Request → List ℕ → Result ℕ Refusal → List ℕ → Type 0
WroteRequest request out = Wrote (on_write_request request out)
