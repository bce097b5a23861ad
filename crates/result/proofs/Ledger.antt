-- A ledger's line by its parts: the room for each, and that all are at most 256 bytes.
use mathlib.Core.Path.{refl}
use mathlib.Core.List.{List}
use Prim.Native.Nat.{ℕ, ◌+◌, ◌^◌, ◌≤◌, ◌<◌}
use native.Mathlib.Omega.{arith}
use lib.ListN.{length-append}
use Rattle.terms.specs.Choice.{∣◌∣}
use Rattle.text.specs.Text.{bytes}
use Rattle.sheets.specs.Result.{decimal, line_of}
use Rattle.sheets.proofs.Lengths.{decimal_length}
use Rattle.result.specs.Put.{PutFits}
use Rattle.result.specs.Ledger.{named, request_line, WorkedLine}

module _ (request page kind evicted list moves : ℕ) where
  abbrev line : List ℕ
  line = request_line request page kind evicted list moves

  pub request_room : {w : List ℕ} {at : ℕ} → PutFits w at line
      → at
      + (∣ named "request=" request ∣
      + (∣ named " page=" page ∣
      + (∣ named " kind=" kind ∣
      + (∣ named " evicted=" evicted ∣
      + (∣ named " list=" list ∣
      + ∣ line_of (bytes " moves=") (decimal moves) ∣)))))
      ≤ ∣ w ∣
  unfolding request_line
  request_room room = let parts = simp length-append at room.fits in simp length-append (omega arith)

  pub request_fits : request < 2 ^ 32 → page < 2 ^ 32 → kind < 2 ^ 32 → evicted < 2 ^ 32 → list < 2 ^ 32
      → moves < 2 ^ 32 → ∣ line ∣ ≤ 256
  unfolding request_line
  request_fits request-is page_is kind_is evicted_is list_is moves_is = simp length-append (omega (
    arith,
    decimal_length request request-is,
    decimal_length page page_is,
    decimal_length kind kind_is,
    decimal_length evicted evicted_is,
    decimal_length list list_is,
    decimal_length moves moves_is,
  ))

pub worked_line : WorkedLine
unfolding request_line decimal
worked_line = refl
