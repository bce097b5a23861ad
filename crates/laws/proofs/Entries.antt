-- What an entry counts for, by its bit and by its filter: laws over any entry with facts about it cite these.
-- Each flag by itself, so that a further flag adds no cases to the others.
use Rattle.std.specs.Prelude.{if◌then◌else◌}
use mathlib.Core.Path.{◌≡◌, refl, sym, ap}
use mathlib.Core.Bool.{Bool, true, false, false≢true}
use lib.Dec.{eqb}
use Rattle.figures.specs.Entry.{Entry, Filter, S, L, is_long, bits, short_of, long_of, short, long}
use Rattle.figures.specs.Cart.{cost}

pub set_bits : (e : Entry) → e.bit ≡ true → (bits e ≡ 1) × (cost e ≡ 2)
set_bits e set = (ap (λ (b : Bool). if b then 1 else 0) set, ap (λ (b : Bool). if b then 2 else long e) set)

pub clear_bits : (e : Entry) → e.bit ≡ false → (bits e ≡ 0) × (cost e ≡ long e)
clear_bits e clear = (ap (λ (b : Bool). if b then 1 else 0) clear, ap (λ (b : Bool). if b then 2 else long e) clear)

pub short_filter : (e : Entry) → e.filter ≡ S → (short e ≡ 1) × (long e ≡ 0)
short_filter e is = (ap short_of is, ap long_of is)

pub long_filter : (e : Entry) → e.filter ≡ L → (short e ≡ 0) × (long e ≡ 1)
long_filter e is = (ap short_of is, ap long_of is)

-- The bit and the filter by what they count for.
pub bit_counts : (e : Entry) → eqb (bits e) 1 ≡ e.bit
bit_counts e = go e.bit
  where
    go : (b : Bool) → eqb (if b then 1 else 0) 1 ≡ b
    go true = refl
    go false = refl

pub filter_counts : (e : Entry) → (if eqb (long e) 1 then L else S) ≡ e.filter
filter_counts e = go e.filter
  where
    go : (f : Filter) → (if eqb (long_of f) 1 then L else S) ≡ f
    go S = refl
    go L = refl

-- A filter by its test.
pub is-long : (f : Filter) → is_long f ≡ true → f ≡ L
is-long S test = absurd (false≢true test)
is-long L test = refl

pub is-short : (f : Filter) → is_long f ≡ false → f ≡ S
is-short S test = refl
is-short L test = absurd (false≢true (sym test))
