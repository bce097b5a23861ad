-- The digits of a number: what they are worth, how many they are, and that the reader's definitions take them.
use Rattle.std.specs.Prelude.{if◌then◌else◌}
use mathlib.Core.Path.{◌≡◌, refl, sym, ap, ◌∙◌}
use mathlib.Core.Bool.{Bool, true, false, false≢true}
use mathlib.Core.Logic.{◌≢◌}
use mathlib.Core.List.{List, [], ◌∷◌, ◌++◌}
use Prim.Native.Nat.{ℕ, zero, suc, ◌+◌, ◌-◌, ◌*◌, ◌/◌, ◌%◌, ◌^◌, ◌≤◌, ◌<◌}
use native.Mathlib.Omega.{arith}
use lib.ListN.{get_or, length-append, get_or-append}
use lib.Seq.{take-append_seam, drop-append-add}
use lib.Dec.{ltb, eqb}
use borrow.Author.Tests.{ltb-true, ltb-false, lt-ltb, le-ltb, ne_eqb, eqb-false}
use Rattle.terms.specs.Choice.{∣◌∣}
use Rattle.terms.proofs.Choice.{by_test}
use Rattle.terms.proofs.Tests.{reads}
use Rattle.text.specs.Bytes.{index_of}
use Rattle.text.specs.Digits.{zero_digit, is_digit, all_digits, value, value_after}
use Rattle.sheets.specs.Number.{means, comma}
use Rattle.sheets.specs.Number.{no_leading_zero, digits_form, before_comma, after_comma}
use Rattle.sheets.specs.Result.{last_digit, in_digits, decimal, three_digits, milliseconds}
use Rattle.sheets.specs.Demands.{NoLeadingZeros, WholeReadBack, WaitsReadBack, CostReadBack}
use Rattle.sheets.proofs.Forms.{zero_decides, whole_is, cost_is}

-- DIGIT BY DIGIT

-- What one digit has, and digits with one more behind them, all digits have.
by_digits : (P : ℕ → List ℕ → Type 0)
    → ((n : ℕ) → n < 10 → P n (last_digit n ∷ []))
    → ((n : ℕ) (s : List ℕ) → 10 ≤ n → P (n / 10) s → P n (s ++ (last_digit n ∷ [])))
    → (k n : ℕ) → n < 10 ^ suc k → P n (in_digits (suc k) n)
by_digits P one more zero n h =
    by_test (P n) (ltb n 10) (λ t. one n (ltb-true n 10 t)) (λ t. absurd (omega (arith, ltb-false n 10 t)))
by_digits P one more (suc k) n h =
    let front = by_digits P one more k (n / 10) (omega arith) in
    by_test (P n) (ltb n 10) (λ t. one n (ltb-true n 10 t)) (λ t. more n _ (ltb-false n 10 t) front)

-- Room for more digits changes nothing.
one_digit : (k n : ℕ) → n < 10 → in_digits (suc k) n ≡ last_digit n ∷ []
one_digit k n h = rw (lt-ltb n 10 h)

more_digits : (k n : ℕ) → 10 ≤ n → in_digits (suc k) n ≡ in_digits k (n / 10) ++ (last_digit n ∷ [])
more_digits k n h = rw (le-ltb n 10 h)

more_room : (k n : ℕ) → n < 10 ^ suc k → in_digits (suc (suc k)) n ≡ in_digits (suc k) n
more_room zero n h = one_digit 1 n h ∙ sym (one_digit 0 n h)
more_room (suc k) n h =
    ap (λ (s : List ℕ). if ltb n 10 then last_digit n ∷ [] else s ++ (last_digit n ∷ []))
    (more_room k (n / 10) (omega arith))

-- A number's decimal digits by its last one.
pub decimal_one : (n : ℕ) → n < 10 → decimal n ≡ last_digit n ∷ []
unfolding decimal
decimal_one n h = one_digit 19 n h

pub decimal_more : (n : ℕ) → 10 ≤ n → n < 2 ^ 64 → decimal n ≡ decimal (n / 10) ++ (last_digit n ∷ [])
unfolding decimal
decimal_more n h most =
    more_digits 19 n h ∙ ap (λ (s : List ℕ). s ++ (last_digit n ∷ [])) (sym (more_room 18 (n / 10) (omega arith)))

-- WHAT THE DIGITS ARE

-- A digit behind others, and others behind digits.
value_behind : (n : ℕ) (s : List ℕ) (d : ℕ) → value_after n (s ++ (d ∷ [])) ≡ 10 * value_after n s + (d - zero_digit)
value_behind n [] d = refl
value_behind n (b ∷ s) d = value_behind (10 * n + (b - zero_digit)) s d

last_is_digit : (n : ℕ) → is_digit (last_digit n) ≡ true
last_is_digit n = simp reads (omega arith, omega arith)

all_behind : (s t : List ℕ) → all_digits s ≡ true → all_digits t ≡ true → all_digits (s ++ t) ≡ true
all_behind [] t h k = k
all_behind (b ∷ s) t h k = let said = simp reads at h in simp reads (said.0, all_behind s t said.1 k)

last_alone : (n : ℕ) → all_digits (last_digit n ∷ []) ≡ true
last_alone n = rw (last_is_digit n)

pub record Digits (n : ℕ) (s : List ℕ) : Type 0 where
  pub worth : value s ≡ n
  pub all_digits : all_digits s ≡ true
  pub some : 1 ≤ ∣ s ∣
  pub few : (k : ℕ) → n < 10 ^ suc k → ∣ s ∣ ≤ suc k
  -- 0 itself is one digit, and others do not start with 0
  pub single : n < 10 → ∣ s ∣ ≡ 1
  pub first : 1 ≤ n → eqb (get_or s 0 0) zero_digit ≡ false

one_has : (n : ℕ) → n < 10 → Digits n (last_digit n ∷ [])
one_has n h = record {
  worth = omega arith;
  all_digits = last_alone n;
  some = omega arith;
  few = λ k most. omega arith;
  single = λ below. refl;
  first = λ above. ne_eqb (last_digit n) zero_digit (omega arith);
}

more_has : (n : ℕ) (s : List ℕ) → 10 ≤ n → Digits (n / 10) s → Digits n (s ++ (last_digit n ∷ []))
more_has n s h front = record {
  worth = omega (arith, value_behind 0 s (last_digit n));
  all_digits = all_behind s (last_digit n ∷ []) front.all_digits (last_alone n);
  some = omega (arith, length-append s (last_digit n ∷ []));
  few = few;
  single = λ below. absurd (omega arith);
  first = λ above.
      ap (λ (b : ℕ). eqb b zero_digit) (get_or-append s (last_digit n ∷ []) 0 0 front.some)
      ∙ front.first (omega arith);
}
  where
    few : (k : ℕ) → n < 10 ^ suc k → ∣ s ++ (last_digit n ∷ []) ∣ ≤ suc k
    few zero most = absurd (omega arith)
    few (suc k) most = omega (arith, length-append s (last_digit n ∷ []), front.few k (omega arith))

pub digits_of : (n : ℕ) → n < 2 ^ 64 → Digits n (decimal n)
unfolding decimal
digits_of n h = by_digits Digits one_has more_has 19 n (omega arith)

-- NO ZERO IN FRONT

no-leading-zero : (n : ℕ) (s : List ℕ) → Digits n s → no_leading_zero s ≡ true
no-leading-zero n s d =
    by_test (λ (b : Bool). b ≡ true) (eqb ∣ s ∣ 1) (λ is. refl) (λ not.
    let above : n ≢ 0 = λ none. eqb-false ∣ s ∣ 1 not (d.single (omega arith)) in
    rw (d.first (omega arith)))

pub no_leading_zeros : NoLeadingZeros
no_leading_zeros n h = no-leading-zero n (decimal n) (digits_of n h)

-- READ BACK

-- Digits are in the form of a number that has room for as many.
digits_in_form : (k n : ℕ) (s : List ℕ) → Digits n s → n < 10 ^ suc k → digits_form (suc k) s ≡ true
digits_in_form k n s d most =
    zero_decides (suc k) s d.some (d.few k most) d.all_digits ∙ no-leading-zero n s d

pub whole_back : WholeReadBack
whole_back n h =
    let d = digits_of n (omega arith) in
    let form = digits_in_form 9 n (decimal n) d (omega arith) in
    whole_is (decimal n) form (omega (arith, d.worth)) ∙ ap means d.worth

-- The comma behind digits is the first one.
comma_place : (s t : List ℕ) → all_digits s ≡ true → index_of comma (s ++ (comma ∷ t)) ≡ ∣ s ∣
unfolding index_of
comma_place [] t all = refl
comma_place (b ∷ s) t all = go (is_digit b) refl all (comma_place s t)
  where
    go : (test : Bool) → is_digit b ≡ test → (if test then all_digits s else false) ≡ true
        → (all_digits s ≡ true → index_of comma (s ++ (comma ∷ t)) ≡ ∣ s ∣)
        → index_of comma (b ∷ (s ++ (comma ∷ t))) ≡ suc ∣ s ∣
    go true is all rest =
        let other = ne_eqb b comma (λ same. false≢true (sym (ap is_digit same) ∙ is)) in
        rw other (ap suc (rest all))
    go false is all rest = absurd (false≢true all)

-- Digits, a comma and more: what stands before the comma and behind it.
module _ (s t : List ℕ) (all : all_digits s ≡ true) where
  before_is : before_comma (s ++ (comma ∷ t)) ≡ s
  before_is = rw (comma_place s t all) (take-append_seam s (comma ∷ t))

  after_is : after_comma (s ++ (comma ∷ t)) ≡ t
  after_is = rw (comma_place s t all) (drop-append-add s (comma ∷ t) 1)

-- Three digits are worth their number.
three_worth : (n : ℕ) → n < 1000 → value (three_digits n) ≡ n
three_worth n h = omega arith

whole_part_in_form : (k wait : ℕ) → wait < 2 ^ 64 → wait / 1000 < 10 ^ suc k
    → digits_form (suc k) (before_comma (milliseconds wait)) ≡ true
unfolding milliseconds
whole_part_in_form k wait h most =
    let d = digits_of (wait / 1000) (omega arith) in
    let all = d.all_digits in
    rw before_is (digits_in_form k (wait / 1000) (decimal (wait / 1000)) d most)

pub wait_back : WaitsReadBack
unfolding milliseconds
wait_back wait h =
    let d = digits_of (wait / 1000) (omega arith) in
    let all : all_digits (decimal (wait / 1000)) ≡ true = d.all_digits in
    record {
      whole_part = whole_part_in_form 16 wait h (omega arith);
      three_after = rw after_is;
      digits_after = rw after_is (simp last_is_digit);
      milliseconds_back = rw before_is d.worth;
      thousandths_back = rw after_is (three_worth (wait % 1000) (omega arith));
    }

pub cost_back : CostReadBack
cost_back cost h =
    let back = wait_back cost (omega arith) in
    let form = whole_part_in_form 3 cost (omega arith) (omega arith) in
    cost_is (milliseconds cost) (record { before = form; three = back.three_after; after = back.digits_after })
    ∙ ap means (omega (arith, back.milliseconds_back, back.thousandths_back))
