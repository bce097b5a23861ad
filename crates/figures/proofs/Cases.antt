-- P1 to P12, the errors that look right, FIFO, CLOCK and LRU, and the limits of soundness, by computation.
-- Each definition is unfolded, so that a case is one Boolean.
use mathlib.Core.Path.{refl}
use Rattle.figures.specs.Directory.{place_new}
use Rattle.figures.specs.Words.{decode}
use Rattle.figures.specs.Sound.{sound}
use Rattle.figures.specs.Hand.{repeat}
use Rattle.figures.specs.Car as Car
use Rattle.figures.specs.Cart as Cart
use Rattle.figures.specs.Classics as Classics
use Rattle.figures.specs.Request.{missed, serve}
use Rattle.figures.specs.Run.{run_from}
use Rattle.figures.specs.Cases.{holds, CasesHold, LimitsHold}

pub cases_hold : CasesHold
unfolding holds place_new run_from serve missed repeat Car.evict Car.trim Car.place_b1 Car.place_b2
    Cart.evict Cart.first_pass Cart.second_pass Cart.trim Cart.place_b1 Cart.place_b2
    Classics.ignore Classics.renew Classics.evict Classics.clock_evict Classics.trim Classics.place
cases_hold = refl

pub limits_hold : LimitsHold
unfolding sound Car.car_sound Cart.cart_sound Classics.alone_sound Classics.clear_sound decode
limits_hold = refl
