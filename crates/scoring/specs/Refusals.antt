-- Score and ledger as total functions: of any sheet and lent memory, the answer and all lent memory afterwards.
-- Too little memory is refusal 6, line 0; then the sheet decides. A refused call serves no request.
use Rattle.std.specs.Prelude.{Bool, ◌&&◌, List, [], ℕ, ◌+◌, ◌*◌, leb, if◌then◌else◌}
use Rattle.terms.specs.Choice.{∣◌∣}
use Rattle.terms.specs.Limits.{most_pages, most_size}
use Rattle.terms.specs.Refusals.{accepted, buffer_too_short}
use Rattle.figures.specs.Words.{encode}
use Rattle.sheets.specs.Bid.{Bid, Meaning, bid, refused, meaning}
use Rattle.sheets.specs.Refusals.{over}
use Rattle.scoring.specs.Scored.{replayed, scored, ledgered}

pub record Scoring : Type 0 where
  pub number : ℕ
  pub line : ℕ
  pub count : ℕ
  pub requests : ℕ
  pub pages : List ℕ
  pub dir : List ℕ
  pub answers : List ℕ
  pub out : List ℕ

-- Memory enough for any bid: 1,000 pages, a directory of 1,024, four words an answer, and bytes to print into.
unfoldable pub enough : ℕ → List ℕ → List ℕ → List ℕ → List ℕ → Bool
enough least pages dir answers out =
    leb most_pages ∣ pages ∣
    && (leb (8 + 4 * most_size) ∣ dir ∣ && (leb (4 * most_pages) ∣ answers ∣ && leb least ∣ out ∣))

-- A refused call: its number and line, its text in front of the bytes, all other lent memory as it was.
abbrev pub refused_score : ℕ → ℕ → List ℕ → List ℕ → List ℕ → List ℕ → List ℕ → Scoring
refused_score number line text pages dir answers out = record {
  number = number;
  line = line;
  count = ∣ text ∣;
  requests = 0;
  pages = pages;
  dir = dir;
  answers = answers;
  out = over text out;
}

-- A bid replayed: its pages, the directory after them, their answers and the text stand in front of what is lent.
abbrev pub served_score : Bid → List ℕ → List ℕ → List ℕ → List ℕ → List ℕ → Scoring
served_score b text pages dir answers out = record {
  number = accepted;
  line = 0;
  count = ∣ text ∣;
  requests = ∣ b.pages ∣;
  pages = over b.pages pages;
  dir = over (encode (replayed b).dir) dir;
  answers = over (replayed b).answers answers;
  out = over text out;
}

-- The sheet's meaning decides.
abbrev pub answered : Meaning → List ℕ → List ℕ → List ℕ → List ℕ → List ℕ → Scoring
answered (bid b) = served_score b
answered (refused number line) = refused_score number line

-- What is printed of a sheet, and the least number of bytes lent for it.
unfoldable pub on_sheet : List ℕ → ℕ → List ℕ → List ℕ → List ℕ → List ℕ → List ℕ → Scoring
on_sheet text least sheet pages dir answers out =
    if enough least pages dir answers out then answered (meaning sheet) text pages dir answers out
    else refused_score buffer_too_short 0 [] pages dir answers out

-- "The result sheet is written into at least 256 lent bytes".
abbrev pub on_score : List ℕ → List ℕ → List ℕ → List ℕ → List ℕ → Scoring
on_score sheet = on_sheet (scored sheet) 256 sheet

-- The same, and 256 bytes for the line of each of 1,000 requests.
abbrev pub on_ledger : List ℕ → List ℕ → List ℕ → List ℕ → List ℕ → Scoring
on_ledger sheet = on_sheet (ledgered sheet) (256 * 1001) sheet
