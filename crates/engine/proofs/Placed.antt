-- A page placed after the evict part: the answer's kind and what the memory shows, by where the page was.
-- Over the policy, and over what memory shows.
use mathlib.Core.Path.{◌≡◌, refl, sym, ◌∙◌}
use mathlib.Core.Bool.{true, false}
use Prim.Native.Nat.{ℕ}
use Rattle.figures.specs.Entry.{has}
use Rattle.figures.specs.Directory.{Directory, place_new}
use Rattle.figures.specs.Hand.{Hand}
use Rattle.figures.specs.Policy.{Policy}
use Rattle.figures.specs.Request.{Served, missed}
use Rattle.laws.proofs.Requests.{missed_b1, missed_b2, missed_new}
use Rattle.laws.proofs.Requests.{missed_page, missed_list, missed_moves, missed_cleared}
use Rattle.engine.specs.declared.Evicted.{Evicted}
use Rattle.engine.specs.declared.kinds.Kind.{Kind}
use Rattle.engine.specs.Shown.{number_of, served_of, EvictedAs, PlacedAs, Tells}

module _ {W : Type 0} (Shows : Directory → W → Type 0) (π : Policy) (x : ℕ) (h : Hand) {w : W} where
  placed_as : {s : Served} (kind : Kind) → number_of kind ≡ s.kind → missed π x h ≡ s → Shows s.dir w
      → PlacedAs Shows π x h kind w
  placed_as kind numbered is shown = record { kind_is = rw is numbered; shown = rw is shown }

  pub placed_b1 : has x h.dir.b1 ≡ true → Shows (π.place_b1 x h) w → PlacedAs Shows π x h Kind.FromB1 w
  placed_b1 found shown = placed_as Kind.FromB1 refl (missed_b1 π x h found) shown

  pub placed_b2 : has x h.dir.b1 ≡ false → has x h.dir.b2 ≡ true → Shows (π.place_b2 x h) w
      → PlacedAs Shows π x h Kind.FromB2 w
  placed_b2 not-b1 found shown = placed_as Kind.FromB2 refl (missed_b2 π x h not-b1 found) shown

  pub placed_new : has x h.dir.b1 ≡ false → has x h.dir.b2 ≡ false
      → Shows (place_new x (π.trim h.dir)) w → PlacedAs Shows π x h Kind.New w
  placed_new not-b1 not-b2 shown = placed_as Kind.New refl (missed_new π x h not-b1 not-b2) shown

  -- The whole answer: the evicted page, its list and what was counted are the hand's.
  pub tells_missed : (out : Evicted) {v : W} {kind : Kind} → EvictedAs Shows h out v → PlacedAs Shows π x h kind w
      → Tells Shows (missed π x h) (served_of kind out) w
  tells_missed out e placed = record {
    kind_is = placed.kind_is;
    page_is = e.page_is ∙ sym (missed_page π x h);
    list_is = e.list_is ∙ sym (missed_list π x h);
    moves_is = e.counts.moves_is ∙ sym (missed_moves π x h);
    cleared_is = e.counts.cleared_is ∙ sym (missed_cleared π x h);
    shown = placed.shown;
  }
