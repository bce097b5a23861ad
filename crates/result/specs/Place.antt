-- Text put at a place of lent bytes, which moves behind it.
-- The bytes are told by their ghost name, so that their owner learns what was put.
use Rattle.std.specs.Prelude.{◌≡◌, List, ℕ}
use Rattle.result.specs.declared.Place.{Place}
use Rattle.result.specs.Put.{PutFits, Put}

abbrev pub Fits : Place → List ℕ → Type 0
Fits p text = PutFits p.out.now p.at text

-- The same lent bytes, with the text put in them.
pub record Puts (old : Place) (text : List ℕ) (new : Place) : Type 0 where
  pub same_bytes : new.out.ghost_name ≡ old.out.ghost_name
  pub put : Put old.out.now old.at text new.out.now new.at
