-- Where a list stands in the words, and where a page stands in a list.
-- A contract's `requires` speaks of these numbers alone.
use Rattle.std.specs.Prelude.{List, [], ◌∷◌, ℕ, zero, suc, ◌+◌, ◌*◌, ◌≤◌, eqb, if◌then◌else◌}
use Rattle.terms.specs.Choice.{∣◌∣}
use Rattle.figures.specs.Entry.{Entry}
use Rattle.figures.specs.Directory.{Name, T1, T2, B1, B2}
use Rattle.figures.specs.Words.{n_t1, n_t2, n_b1, used}

-- The words are no more than the largest directory has, and the lists that they state fit into them.
pub record Room (w : List ℕ) : Type 0 where
  pub short : ∣ w ∣ ≤ 4104
  pub held : 8 + used w ≤ ∣ w ∣

-- The lists by number, in their order.
abbrev pub name_of : ℕ → Name
name_of zero = T1
name_of (suc zero) = T2
name_of (suc (suc zero)) = B1
name_of (suc (suc (suc i))) = B2

-- The word at which list i starts; list 4 would start after the last entry.
abbrev pub start_of : ℕ → List ℕ → ℕ
start_of zero w = 8
start_of (suc zero) w = 8 + 2 * n_t1 w
start_of (suc (suc zero)) w = 8 + 2 * (n_t1 w + n_t2 w)
start_of (suc (suc (suc zero))) w = 8 + 2 * (n_t1 w + n_t2 w + n_b1 w)
start_of (suc (suc (suc (suc i)))) w = 8 + used w

-- How many entries stand before the first for page x: all, if there is none.
abbrev pub index : ℕ → List Entry → ℕ
index x [] = 0
index x (e ∷ l) = if eqb e.page x then 0 else suc (index x l)
