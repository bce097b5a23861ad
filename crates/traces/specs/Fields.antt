-- The fields of a line: "Fields are separated by a comma".
-- Any bytes are fields: some that a comma follows, and the last.
use Rattle.std.specs.Prelude.{List, [], ◌∷◌, ℕ, eqb, if◌then◌else◌}
use Rattle.sheets.specs.Number.{comma}

pub data Fields : Type 0 where
  field : List ℕ → Fields → Fields
  last : List ℕ → Fields

-- Fields with one byte more in front.
abbrev pub behind : ℕ → Fields → Fields
behind b (field f rest) = field (b ∷ f) rest
behind b (last f) = last (b ∷ f)

abbrev pub fields : List ℕ → Fields
fields [] = last []
fields (b ∷ s) = if eqb b comma then field [] (fields s) else behind b (fields s)

-- The first of them.
abbrev pub first : Fields → List ℕ
first (field f rest) = f
first (last f) = f
