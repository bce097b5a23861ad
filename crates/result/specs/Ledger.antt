-- A ledger's line: what one request was, and what it came to.
-- `request=4 page=3 kind=2 evicted=2 list=1 moves=2`, closed by a line feed.
use Rattle.std.specs.Prelude.{◌≡◌, List, ◌++◌, ℕ}
use Prim.Native.String.{String}
use Rattle.text.specs.Text.{bytes}
use Rattle.sheets.specs.Result.{decimal, line_of}

abbrev pub named : String → ℕ → List ℕ
named name n = bytes name ++ decimal n

unfoldable pub request_line : ℕ → ℕ → ℕ → ℕ → ℕ → ℕ → List ℕ
request_line request page kind evicted list moves =
    named "request=" request
    ++ (named " page=" page
    ++ (named " kind=" kind
    ++ (named " evicted=" evicted
    ++ (named " list=" list
    ++ line_of (bytes " moves=") (decimal moves)))))

-- A worked line. [proofs/Ledger]
abbrev pub WorkedLine : Type 0
WorkedLine = request_line 4 3 2 2 1 2 ≡ bytes "request=4 page=3 kind=2 evicted=2 list=1 moves=2\n"
