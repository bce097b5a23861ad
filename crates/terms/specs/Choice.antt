-- The words that rules are written with: all of some tests, the size of a list, two lists compared,
-- numbers in a row.
-- Nothing here is about caches or sheets.
use Rattle.std.specs.Prelude.{Bool, true, false, List, [], ◌∷◌, ℕ, zero, suc, length, leb, eqb, if◌then◌else◌}

infix 60 ∣◌∣
abbrev pub ∣◌∣ {ℓ} : {A : Type ℓ} → List A → ℕ
∣ l ∣ = length l

-- All tests of the list hold.
abbrev pub every : List Bool → Bool
every [] = true
every (b ∷ l) = if b then every l else false

-- All numbers of the list are at most n.
abbrev pub all_at_most : ℕ → List ℕ → Bool
all_at_most n [] = true
all_at_most n (x ∷ w) = if leb x n then all_at_most n w else false

-- Two lists are the same.
abbrev pub same : List ℕ → List ℕ → Bool
same [] [] = true
same [] (y ∷ b) = false
same (x ∷ a) [] = false
same (x ∷ a) (y ∷ b) = if eqb x y then same a b else false

-- So many numbers in a row, from x on.
abbrev pub numbers_from : ℕ → ℕ → List ℕ
numbers_from x zero = []
numbers_from x (suc n) = x ∷ numbers_from (suc x) n
