-- How the list engine's memory shows a directory: by its words.
-- What engine says of any engine's memory is said of this one with `Holds` for what memory shows.
use Rattle.std.specs.Prelude.{◌≡◌, List, ℕ}
use Rattle.figures.specs.Directory.{Directory}
use Rattle.figures.specs.Words.{encode}

abbrev pub Holds : Directory → List ℕ → Type 0
Holds d w = encode d ≡ w
