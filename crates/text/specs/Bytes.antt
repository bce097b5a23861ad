-- Where a byte first stands among bytes.
-- The older kit's crate `bytes` had these words; today's library has none that counts so.
use Rattle.std.specs.Prelude.{◌≡◌, ◌<◌, Bool, true, false, List, [], ◌∷◌, ℕ, zero, suc, eqb, Option, MatchOption}
use Rattle.terms.specs.Choice.{∣◌∣}

-- One place behind, but the first place where the byte is found there.
abbrev pub index_after : Bool → ℕ → ℕ
index_after true n = zero
index_after false n = suc n

-- The first place of the byte, or how many bytes there are where it is none of them.
unfoldable pub index_of : ℕ → List ℕ → ℕ
index_of x [] = zero
index_of x (b ∷ s) = index_after (eqb b x) (index_of x s)

-- find(text, byte): the first place of the byte, or none where it is none of them.
abbrev pub FoundAt : ℕ → List ℕ → Option ℕ → Type 0
FoundAt byte text r =
    MatchOption r (index_of byte text ≡ ∣ text ∣) (λ n. (n ≡ index_of byte text) × (n < ∣ text ∣))
