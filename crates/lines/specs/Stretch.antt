-- The look-up's promise: the refusal, or the part of the caller's slice by its place and not only by its content.
-- proofs/Determined shows that two outcomes it allows are equal.
use Rattle.std.specs.Prelude.{◌≡◌, List, ℕ, ◌+◌, ◌-◌, take, drop, Result, MatchResult}
use Rattle.std.specs.Borrow.{Bor}
use Rattle.terms.specs.Refusals.{number_in}
use Rattle.terms.specs.declared.refusals.Refusal.{Refusal}
use Rattle.sheets.specs.Refusals.{on_look_up}
use Rattle.lines.specs.Cursor.{NoPart}

-- r is the stretch of s from one place to another: in the same block, that many bytes on, those bytes.
pub record Stretch (s : Bor (List ℕ)) (start stop : ℕ) (r : Bor (List ℕ)) : Type 0 where
  pub same_block : r.ref_ptr.0 ≡ s.ref_ptr.0
  pub place_is : r.ref_ptr.1 ≡ s.ref_ptr.1 + start
  pub bytes_are : r.now ≡ take (stop - start) (drop start s.now)

-- look_up(sheet, line) -> Result<&[u8], Refusal>
pub record LookedUp (s : Bor (List ℕ)) (line : ℕ) (r : Result (Bor (List ℕ)) Refusal) : Type 0 where
  pub number_is : number_in r ≡ (on_look_up s.now line).number
  pub part_is : MatchResult r
      (Stretch s (on_look_up s.now line).start (on_look_up s.now line).stop)
      (λ refusal. NoPart (on_look_up s.now line))
