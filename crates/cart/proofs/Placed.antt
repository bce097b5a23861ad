-- A page placed by CART, from what a page that comes back leaves: q raised after one from B2, trim before a new one.
-- By the answer's kind.
use mathlib.Core.Path.{◌≡◌, refl, ap}
use mathlib.Core.List.{List}
use Prim.Native.Nat.{ℕ, ◌+◌}
use native.Mathlib.Omega.{arith}
use Rattle.terms.specs.Choice.{∣◌∣}
use Rattle.figures.specs.Entry.{new_long}
use Rattle.figures.specs.Directory.{Directory, T1, place_new, remembered}
use Rattle.figures.specs.Words.{decode}
use Rattle.figures.specs.Hand.{Hand}
use Rattle.figures.specs.Cart.{raise, trim, place_b1, place_b2}
use Rattle.figures.specs.Policy.{cart_policy}
use Rattle.laws.proofs.Lists.{length_tail, length_without}
use Rattle.engine.specs.declared.counts.ShortCount.{ShortCount}
use Rattle.engine.specs.declared.counts.LongCount.{LongCount}
use Rattle.engine.specs.declared.kinds.Kind.{Kind}
use Rattle.engine.specs.Shown.{Makes, PlacedAs}
use Rattle.engine.proofs.Placed.{placed_b1, placed_b2, placed_new}
use Rattle.entries.specs.Holds.{Holds}
use Rattle.entries.specs.Stretches.{Room}
use Rattle.entries.specs.Returning.{Freed, Returned, from-b1, from-b2, is_new, returned_from_b1, returned_from_b2}
use Rattle.entries.proofs.ComingBack.{was_new, was_in_b1, was_in_b2}
use Rattle.entries.proofs.Laid.{header}
use Rattle.entries.proofs.Rooms.{roomy}
use Rattle.cart.specs.Passing.{Raisable, CountsFit}

-- By where the page was. m and n are the dividends for a page found in B1 and in B2: each matters to its own case.
module _ {x : ℕ} {h : Hand} {w w₁ : List ℕ} {kind : Kind} where
  pub from-B1 : {n : ℕ} → Returned h.dir x (new_long x) T1 h.n_s n w w₁ kind → ¬ (kind ≡ Kind.FromB2) → ¬ (kind ≡ Kind.New)
      → PlacedAs Holds cart_policy x h kind w₁
  unfolding place_b1
  from-B1 r not-from-b2 not-new =
      let was = was_in_b1 r not-new not-from-b2 in
      rw was.0 (placed_b1 Holds cart_policy x h was.1 was.2)

  pub from-B2 : {m : ℕ} → Returned h.dir x (new_long x) T1 m h.n_l w w₁ kind
      → {w₂ : List ℕ} → kind ≡ Kind.FromB2 → Makes Holds (raise h.n_s) w₁ w₂ → PlacedAs Holds cart_policy x h kind w₂
  unfolding place_b2
  from-B2 r is raised =
      let was = was_in_b2 r is in
      let back = returned_from_b2 h.dir x (new_long x) T1 h.n_l in
      rw is (placed_b2 Holds cart_policy x h was.0 was.1 (raised back was.2))

  pub new_page : {m n : ℕ} → Returned h.dir x (new_long x) T1 m n w w₁ kind
      → {w₂ : List ℕ} → kind ≡ Kind.New → (w₁ ≡ w → Holds (place_new x (trim h.dir)) w₂)
      → PlacedAs Holds cart_policy x h kind w₂
  new_page r is placed =
      let was = was_new r is in
      rw is (placed_new Holds cart_policy x h was.0 was.1 (placed was.2))

-- The words that a page from a history leaves are such that q may be raised.
module _ {w w₁ : List ℕ} {n_s : ShortCount} {n_l : LongCount} (free : Freed w) (fit : CountsFit w n_s n_l)
  where
    raisable : (d₁ : Directory) → Holds d₁ w₁ → let d = decode w in
        d₁.c ≡ d.c → d₁.q ≡ d.q → ∣ d₁.t1 ∣ ≡ ∣ d.t1 ∣ + 1 → d₁.t2 ≡ d.t2 → remembered d₁ + 1 ≡ remembered d
        → Room w₁ × Raisable w₁ n_s.0
    raisable d₁ is same_c same_q one_more same_t2 one_less =
        let d = decode w in
        let h = header d w free.is in
        let h₁ = header d₁ w₁ is in
        let t2 = ap ∣◌∣ same_t2 in (
          roomy d₁ is (omega (arith, free.one_free, free.history_most)) (omega (arith, free.bounds)),
          omega (arith, free.bounds, free.one_free, fit),
        )

    pub raise_ready : {x m n : ℕ} {kind : Kind} → Returned (decode w) x (new_long x) T1 m n w w₁ kind → ¬ (kind ≡ Kind.New)
        → Room w₁ × Raisable w₁ n_s.0
    raise_ready {x} {m} (from-b1 found is) not_new =
        let d = decode w in
        raisable (returned_from_b1 d x (new_long x) T1 m) is refl refl (length_tail d.t1 (new_long x)) refl
        (omega (arith, length_without x d.b1 found))
    raise_ready {x} {n = n} (from-b2 not-b1 found is) not_new =
        let d = decode w in
        raisable (returned_from_b2 d x (new_long x) T1 n) is refl refl (length_tail d.t1 (new_long x)) refl
        (omega (arith, length_without x d.b2 found))
    raise_ready (is_new not-b1 not-b2 same) not_new = absurd (not_new refl)
