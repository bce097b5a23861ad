-- Which pages were seen, as a set of bits: the places of a page's two bits, and what it is for a page to be noted.
-- It goes one way only: a noted page has its bits set, and nothing is said of the others.
use Rattle.std.specs.Prelude.{◌≡◌, true, List, ℕ, ◌*◌, ◌/◌, ◌%◌, ◌^◌, length, get_or}
use Rattle.figures.specs.Entry.{Entry, has}

-- So many words, and bits.
abbrev pub seen_words : ℕ
seen_words = 1024

abbrev pub places : ℕ
places = 32 * seen_words

-- The lowest digits of the page, and the highest of its product with a number near 2 ^ 32 over the golden ratio.
abbrev pub low_place : ℕ → ℕ
low_place page = page % places

abbrev pub mixed_place : ℕ → ℕ
mixed_place page = page * 2654435769 % 4294967296 / 131072

abbrev pub bit_at : List ℕ → ℕ → ℕ
bit_at seen place = get_or seen (place / 32) 0 / 2 ^ (place % 32) % 2

-- No word and no bit is lost.
pub record BitsKept (seen seen' : List ℕ) : Type 0 where
  pub as_many : length seen' ≡ length seen
  pub still_set : (place : ℕ) → bit_at seen place ≡ 1 → bit_at seen' place ≡ 1

pub record Noted (page : ℕ) (seen : List ℕ) : Type 0 where
  pub low_set : bit_at seen (low_place page) ≡ 1
  pub mixed_set : bit_at seen (mixed_place page) ≡ 1

-- Every page of the list is noted.
abbrev pub AllNoted : List Entry → List ℕ → Type 0
AllNoted l seen = (page : ℕ) → has page l ≡ true → Noted page seen
