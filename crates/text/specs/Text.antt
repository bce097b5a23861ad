-- Bytes, as a reader quotes them and looks for a key.
-- Nothing here is about sheets.
use Rattle.std.specs.Prelude.{Bool, true, false, List, [], ◌∷◌, ℕ, eqb, if◌then◌else◌}
use Prim.Native.Char.{code}
use Prim.Native.String.{String, [] as none, ◌∷◌ as ◌then◌}

-- The bytes of a quoted text.
abbrev pub bytes : String → List ℕ
bytes none = []
bytes (c then s) = code c ∷ bytes s

-- The bytes start with the key.
abbrev pub starts : List ℕ → List ℕ → Bool
starts [] s = true
starts (k ∷ key) [] = false
starts (k ∷ key) (b ∷ s) = if eqb b k then starts key s else false
