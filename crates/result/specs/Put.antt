-- Bytes put into a lent buffer from a place on: what stands before it and what stands behind them stays.
use Rattle.std.specs.Prelude.{◌≡◌, List, ◌++◌, ℕ, ◌+◌, ◌≤◌, take, drop}
use Rattle.terms.specs.Choice.{∣◌∣}

-- What is to be put fits into w from the place on.
pub record PutFits (w : List ℕ) (at : ℕ) (put : List ℕ) : Type 0 where
  pub fits : at + ∣ put ∣ ≤ ∣ w ∣

pub record Put (w : List ℕ) (at : ℕ) (put : List ℕ) (w' : List ℕ) (next : ℕ) : Type 0 where
  pub next_is : next ≡ at + ∣ put ∣
  pub front_is : take next w' ≡ take at w ++ put
  pub rest_stays : drop next w' ≡ drop next w
  pub as_long : ∣ w' ∣ ≡ ∣ w ∣
