-- CART's trim in words that hold a directory: the history that the code names is the one that trim takes from.
-- And that a page fits in after it.
use mathlib.Core.Path.{◌≡◌}
use mathlib.Core.List.{List}
use Prim.Native.Nat.{ℕ, ◌+◌, ◌*◌, ◌≤◌}
use lib.ListN.{get_or}
use Rattle.terms.specs.Choice.{∣◌∣}
use Rattle.figures.specs.Directory.{Directory, cached, remembered}
use Rattle.figures.specs.Words.{n_b1, n_b2}
use Rattle.figures.specs.Cart.{trim}
use Rattle.laws.proofs.Cart.{cart_trims}
use Rattle.engine.specs.Passes.{oldest_of}
use Rattle.engine.proofs.CartTrim.{trims, trims_not}
use Rattle.entries.specs.Holds.{Holds}
use Rattle.entries.specs.Stretches.{name_of}
use Rattle.entries.specs.Leaves.{ListHeadDropped}
use Rattle.entries.proofs.Laid.{header}
use Rattle.entries.proofs.Rooms.{RoomForOne, trimmed_fits}

module _ (d : Directory) {w : List ℕ} (b : ℕ) (is : Holds d w)
    (named : name_of b ≡ oldest_of (get_or w 3 0) (n_b1 w) (n_b2 w)) where
  named_in_d : name_of b ≡ oldest_of d.q ∣ d.b1 ∣ ∣ d.b2 ∣
  named_in_d = let h = header d w is in rw (← h.q, ← h.b1, ← h.b2) named

  pub head_dropped : {w' : List ℕ} → ListHeadDropped b w w' → cached d + remembered d ≤ 2 * d.c
      → remembered d ≡ d.c + 1 → Holds (trim d) w'
  head_dropped dropped fits full = rw (trims d full, ← named_in_d) (dropped d is fits)

pub not_dropped : (d : Directory) {w : List ℕ} → Holds d w → ¬ (remembered d ≡ d.c + 1) → Holds (trim d) w
not_dropped d is fits = rw (trims_not d fits) is

-- After it there is room for one more entry.
pub trim_fits : (d : Directory) → cached d + 1 ≡ d.c → remembered d ≤ d.c + 1 → RoomForOne d (trim d)
trim_fits d one_free history = trimmed_fits one_free (cart_trims d history)
