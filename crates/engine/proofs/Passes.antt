-- A pass as an engine repeats it: from every hand that its memory showed at its start, to the hand that it shows now.
-- Over what memory shows.
use mathlib.Core.Path.{◌≡◌}
use Rattle.figures.specs.Directory.{Directory}
use Rattle.figures.specs.Hand.{Hand, Look, stop, Ends, last, next}
use Rattle.figures.specs.Cart.{first_look, second_look, first_pass, second_pass, counted}
use Rattle.figures.specs.Demands.{CartStops}
use Rattle.laws.proofs.Repeats.{ends_once}
use Rattle.engine.specs.declared.counts.Kept.{Kept}
use Rattle.engine.specs.Shown.{EndsWhere}
use Rattle.engine.specs.Passes.{ShowsHand, Looked, PassEnds}

module _ {W : Type 0} (Shows : Directory → W → Type 0) where
  -- From hand h the pass has come to hand at: what is left of the repeat from h is the repeat from there.
  pub record Reached (look : Hand → Look) (h : Hand) (w : W) (k : Kept) : Type 0 where
    pub at : Hand
    pub rest : (z : Hand) → Ends look at z → Ends look h z
    pub holds : ShowsHand Shows at w k

  -- So from every hand that was shown at the pass's start.
  pub record Underway (look : Hand → Look) (w₀ : W) (k₀ : Kept) (w : W) (k : Kept) : Type 0 where
    pub reached : (h : Hand) → ShowsHand Shows h w₀ k₀ → Reached look h w k

module _ {W : Type 0} {Shows : Directory → W → Type 0} {look : Hand → Look} {w₀ : W} {k₀ : Kept} where
  pub begins : Underway Shows look w₀ k₀ w₀ k₀
  begins = record { reached = λ h holds. record { at = h; rest = λ z ends. ends; holds = holds } }

  pub goes-on : {w w' : W} {k k' : Kept} → Underway Shows look w₀ k₀ w k → Looked Shows look w k w' k'
      → Underway Shows look w₀ k₀ w' k'
  goes-on u l = record {
    reached = λ h holds.
        let r = u.reached h holds in
        let t = l.turned r.at r.holds in
        record { at = t.at; rest = λ z ends. r.rest z (next t.turns ends); holds = t.holds };
  }

  pub ends_here : {w : W} {k : Kept} → Underway Shows look w₀ k₀ w k
      → ((h : Hand) → ShowsHand Shows h w k → look h ≡ stop h) → PassEnds Shows look w₀ k₀ w k
  ends_here u stops h holds =
      let r = u.reached h holds in
      record { at = r.at; ends = r.rest r.at (last (stops r.at r.holds)); holds = r.holds }

-- The engine's repeat and the definition's end at one hand.
ended_at : {look : Hand → Look} {h z : Hand} {Q : Hand → Type 0} → Ends look h z → EndsWhere look h Q → Q z
ended_at ends e = rw (ends_once e.ends ends) at e.holds

-- Both passes of an engine end where the definition's do.
pub passes_end : {W : Type 0} {Shows : Directory → W → Type 0} {d : Directory} {w w₁ w₂ : W} {k k₁ k₂ : Kept}
    → CartStops d → ShowsHand Shows (counted d) w k
    → PassEnds Shows first_look w k w₁ k₁ → PassEnds Shows second_look w₁ k₁ w₂ k₂
    → ShowsHand Shows (second_pass (first_pass (counted d))) w₂ k₂
passes_end stops begins first second =
    ended_at stops.second (second _ (ended_at stops.first (first _ begins)))
