-- The head of a list, and its move to a tail: what a look reads and makes, under CAR and under CART.
use Rattle.std.specs.Prelude.{List, [], ◌∷◌}
use Rattle.figures.specs.Entry.{Entry, new_short, drop_head}
use Rattle.figures.specs.Directory.{Directory, Name, list_of, with_list, to_tail}

-- The head of a list, and of an empty one a head at which both passes stop: S with its bit clear.
abbrev pub front_of : List Entry → Entry
front_of [] = new_short 0
front_of (e ∷ es) = e

-- The head of list i, as f makes it, becomes the tail of list j.
abbrev pub head_to : Name → Name → (Entry → Entry) → Directory → Directory
head_to i j f d = to_tail j (f (front_of (list_of i d))) (with_list i (drop_head (list_of i d)) d)
