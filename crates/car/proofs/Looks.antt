-- A look at the chosen clock in words, by what the code reads and moves: the repeat goes on, or it ends.
use mathlib.Core.Path.{◌≡◌, refl, sym, ◌∙◌, subst}
use mathlib.Core.Bool.{Bool, true, false}
use mathlib.Core.List.{List}
use Prim.Native.Nat.{ℕ, ◌+◌, ◌≤◌, ◌<◌}
use native.Mathlib.Omega.{arith}
use lib.ListN.{get_or}
use Rattle.figures.specs.Entry.{cleared, demoted, bits}
use Rattle.figures.specs.Directory.{Directory, Name, list_of, in_cache}
use Rattle.figures.specs.Words.{decode}
use Rattle.laws.proofs.Encoding.{decoded}
use Rattle.engine.specs.declared.Hand.{Hand}
use Rattle.engine.specs.Shown.{Makes, moved_once, turned_once}
use Rattle.engine.specs.Heads.{front_of, head_to}
use Rattle.engine.specs.Choosing.{Turning, Chosen, EndsFrom}
use Rattle.engine.proofs.Choosing.{turns_on, fewer_bits, goes-on, stops_here}
use Rattle.entries.specs.Holds.{Holds}
use Rattle.entries.specs.Flags.{Says, Becomes}
use Rattle.entries.specs.Leaves.{HeadMoved}
use Rattle.entries.specs.Stretches.{name_of, start_of}
use Rattle.entries.proofs.Heads.{page_read, flags_read, head_moved}
use Rattle.car.specs.Looking.{GoesOn}
use Rattle.car.proofs.Heads.{has_head, some_length, history_name, list-word}

-- A set bit was found: from the words L the repeat goes on, with a set bit less than in w.
pub record Turned (w : List ℕ) (k : Hand) (L : List ℕ) : Type 0 where
  pub on : GoesOn w k L (turned_once k)
  pub fewer : in_cache bits (decode L) < in_cache bits (decode w)

-- The head of list i stands at word `at`; its flags say whether its bit is set.
module _ {w : List ℕ} {k : Hand} {i at : ℕ} (t : Turning Holds w k) (known : i ≤ 1) (choice : Chosen Holds (name_of i) w)
    (start : at ≡ start_of i w) (bit : Bool) (says : Says (λ e. e.bit) (get_or w (at + 1) 0) bit) where
  abbrev some : 1 ≤ get_or w (4 + i) 0
  some = some_length t i choice known

  bit_read : (d : Directory) → Holds d w → bit ≡ (front_of (list_of (name_of i) d)).bit
  bit_read d is = says (front_of (list_of (name_of i) d)) (flags_read (omega arith) some start d is)

  pub look_again : {f : ℕ} {L : List ℕ} → bit ≡ true → Becomes cleared (get_or w (at + 1) 0) f → HeadMoved i 1 f w L
      → Turned w k L
  look_again is becomes moved =
      let set : (d : Directory) → Holds d w → (front_of (list_of (name_of i) d)).bit ≡ true =
      λ d shown. sym (bit_read d shown) ∙ is in
      let turned = head_moved (omega arith) some start 1 cleared (λ e. refl) becomes moved in
      let again = turns_on t (name_of i) choice (has_head t i choice) set turned in
      let less = fewer_bits t (name_of i) choice (has_head t i choice) set turned in
      record {
        on = record { turning = again; rest = goes-on t (name_of i) choice (has_head t i choice) set turned };
        fewer = rw (decoded again.dir again.shown, decoded t.dir t.shown) less;
      }

  pub look_stops : {f : ℕ} {L : List ℕ} → bit ≡ false → Becomes demoted (get_or w (at + 1) 0) f
      → HeadMoved i (i + 2) f w L
      → EndsFrom Holds w k (record { page = get_or w at 0; list = i + 1; hand = moved_once k }) L
  look_stops {L = L} is becomes moved =
      let demotes = head_moved (omega arith) some start (i + 2) demoted (λ e. refl) becomes moved in
      stops_here t (name_of i) choice (has_head t i choice) (list-word i known) (λ d shown. sym (bit_read d shown) ∙ is)
      (page_read (omega arith) some start)
      (subst (λ (j : Name). Makes Holds (head_to (name_of i) j demoted) w L) (history_name i known) demotes)
