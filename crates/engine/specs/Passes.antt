-- CART's two passes over lent memory w, and k, what is kept beside it. How memory shows a directory is a parameter.
-- Any hand that memory and counts show may be meant: a promise is one about each of them.
use Rattle.std.specs.Prelude.{◌≡◌, Bool, ◌||◌, ℕ, ◌+◌, ◌*◌, ◌≤◌, ltb, eqb, if◌then◌else◌}
use Rattle.figures.specs.Entry.{Entry, is_long, bits, short, long, total}
use Rattle.figures.specs.Directory.{Directory, Name, B1, B2, cached, remembered, in_cache}
use Rattle.figures.specs.Hand.{Hand, Look, again}
use Rattle.figures.specs.Cart.{cost, demotion}
use Rattle.figures.specs.Policy.{cart_policy}
use Rattle.figures.specs.Sound.{Bounds}
use Rattle.engine.specs.declared.counts.ShortCount.{ShortCount}
use Rattle.engine.specs.declared.counts.LongCount.{LongCount}
use Rattle.engine.specs.declared.counts.Kept.{Kept}
use Rattle.engine.specs.declared.counts.AfterEvict.{AfterEvict}
use Rattle.engine.specs.declared.kinds.Kind.{Kind}
use Rattle.engine.specs.Shown.{Counts, EndsWhere, EvictedAs, PlacedAs}

-- The history that trim takes from: B1 where |B1| > q or B2 is empty, else B2.
abbrev pub oldest_of : ℕ → ℕ → ℕ → Name
oldest_of q k1 k2 = if ltb q k1 || eqb k2 0 then B1 else B2

-- Line 27's test of the head: it is L or has its bit set.
abbrev pub goes_on : Entry → Bool
goes_on e = e.bit || is_long e.filter

-- Of a full directory: the counts are those of T1 and T2, and what the passes may still cost is bounded.
pub record Accounts (d : Directory) (k : Kept) : Type 0 where
  pub bounds : Bounds d.c d.p
  pub q_fits : d.q ≤ 2 * d.c
  pub full : cached d ≡ d.c
  pub history_fits : remembered d ≤ d.c
  pub t2_long : total short d.t2 ≡ 0
  pub shorts : k.short.0 ≡ in_cache short d
  pub longs : k.long.0 ≡ in_cache long d
  pub left : k.hand.moves + (total cost d.t1 + 2 * total bits d.t2) ≤ 2048
  pub cleared_most : k.hand.cleared ≤ k.hand.moves

-- What is kept is what hand h keeps.
pub record KeepsCounts (h : Hand) (k : Kept) : Type 0 where
  pub short_is : k.short.0 ≡ h.n_s
  pub long_is : k.long.0 ≡ h.n_l
  pub counts : Counts h k.hand

module _ {W : Type 0} (Shows : Directory → W → Type 0) where
  -- Within the evict part.
  pub record Passing (w : W) (k : Kept) : Type 0 where
    pub dir : Directory
    pub shown : Shows dir w
    pub accounts : Accounts dir k

  -- The memory shows hand h's directory, and what is kept is what h keeps.
  pub record ShowsHand (h : Hand) (w : W) (k : Kept) : Type 0 where
    pub shown : Shows h.dir w
    pub keeps : KeepsCounts h k

  -- A look at hand h leads back to the choice, with the hand that is shown then.
  pub record LooksAgain (look : Hand → Look) (h : Hand) (w : W) (k : Kept) : Type 0 where
    pub at : Hand
    pub turns : look h ≡ again at
    pub holds : ShowsHand at w k

  -- One look, which cost one move: what Passing says holds again, and every hand that was shown has turned.
  pub record Looked (look : Hand → Look) (w : W) (k : Kept) (w' : W) (k' : Kept) : Type 0 where
    pub passing : Passing w' k'
    pub one_move : k'.hand.moves ≡ k.hand.moves + 1
    pub turned : (h : Hand) → ShowsHand h w k → LooksAgain look h w' k'

  -- A pass: from any hand that is shown its repeat ends, at a hand that is shown then.
  abbrev pub PassEnds : (Hand → Look) → W → Kept → W → Kept → Type 0
  PassEnds look w k w' k' = (h : Hand) → ShowsHand h w k → EndsWhere look h (λ z. ShowsHand z w' k')

  -- A whole pass: what Passing says holds again.
  pub record Passed (look : Hand → Look) (w : W) (k : Kept) (w' : W) (k' : Kept) : Type 0 where
    pub passing : Passing w' k'
    pub ends : PassEnds look w k w' k'

  -- The evicted page, its list and what is counted are those of hand z, and the memory shows its directory.
  pub record EvictedWithCounts (z : Hand) (r : AfterEvict) (w : W) : Type 0 where
    pub evicted : EvictedAs Shows z r.out w
    pub short_is : r.short.0 ≡ z.n_s
    pub long_is : r.long.0 ≡ z.n_l

  -- The demotion of any hand that is shown.
  abbrev pub Demotes : W → Kept → W → AfterEvict → Type 0
  Demotes w k w' r = (h : Hand) → ShowsHand h w k → EvictedWithCounts (demotion h) r w'

  -- A page placed, whichever hand with these counts is shown.
  abbrev pub Places : ℕ → ShortCount → LongCount → W → Kind → W → Type 0
  Places page n_s n_l w kind w' =
      (h : Hand) → Shows h.dir w → n_s.0 ≡ h.n_s → n_l.0 ≡ h.n_l → PlacedAs Shows cart_policy page h kind w'
