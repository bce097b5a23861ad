-- What a flags word says of its entry, and what it becomes as the entry changes.
-- Each is said of every entry whose flags they are, so that a caller names the entry and has the rest.
use Rattle.std.specs.Prelude.{◌≡◌, ℕ, eqb, if◌then◌else◌}
use Rattle.figures.specs.Entry.{Entry, bits, long}
use Rattle.figures.specs.Words.{flags}

-- The flags f say r, which is so of their entry.
abbrev pub Says : {A : Type 0} → (Entry → A) → ℕ → A → Type 0
Says of f r = (e : Entry) → f ≡ flags e → r ≡ of e

-- The flags f become r, those of the changed entry.
abbrev pub Becomes : (Entry → Entry) → ℕ → ℕ → Type 0
Becomes change f r = Says (λ e. flags (change e)) f r

-- What an entry counts for by a flag: 1 is its reference bit, 2 the filter L.
abbrev pub of_flag : ℕ → Entry → ℕ
of_flag flag e = if eqb flag 1 then bits e else long e
