-- CART's evict, trim and place: both passes end by themselves, what they keep, what the demotion and each place leave.
-- Every hand move before the demotion lowers what the cache owes by one at least, which bounds the moves.
use Rattle.std.specs.Prelude.{if◌then◌else◌}
use mathlib.Core.Path.{◌≡◌, refl}
use mathlib.Core.Bool.{Bool, true, false}
use mathlib.Core.Logic.{inl, inr, ⊎_elim}
use mathlib.Core.List.{List, [], ◌∷◌, ◌++◌}
use Prim.Native.Nat.{ℕ, ◌+◌, ◌-◌, ◌*◌, ◌≤◌, min}
use native.Mathlib.Omega.{arith}
use lib.Dec.{leb, ltb, eqb}
use borrow.Author.Tests.{eqb-true, eqb-false, eq-eqb, ltb-true, ltb-false}
use Rattle.terms.specs.Choice.{∣◌∣}
use Rattle.terms.proofs.Choice.{by_test, by_tests, either}
use Rattle.figures.specs.Entry.{Entry, Filter, S, L, new_long, cleared, made_long, demoted, bits, short, long}
use Rattle.figures.specs.Entry.{total, has, drop_head}
use Rattle.figures.specs.Directory.{Directory, T1, T2, B1, B2, with_q, with_list}
use Rattle.figures.specs.Directory.{hit, place_new, cached, remembered, in_cache}
use Rattle.figures.specs.Hand.{Hand, with_dir, turn, Look, again, stop}
use Rattle.figures.specs.Cart.{raise, becomes_long, pass_t1, settle, if_long, cost, owing}
use Rattle.figures.specs.Cart.{first_look, second_look, first_pass, second_pass}
use Rattle.figures.specs.Cart.{demote_t1, demote_t2, demotion, counted, evict, trim, place_b1, back_from_b2, place_b2}
use Rattle.figures.specs.Demands.{Evicts, CartStops, HeadDropped, CartTrimHasHead}
use Rattle.laws.proofs.Entries.{set_bits, clear_bits, short_filter, long_filter}
use Rattle.laws.proofs.Lists.{at_head, head_of_tail, short_or_long}
use Rattle.laws.proofs.Lists.{total_tail, total_without, total_marked_same, total_head_dropped}
use Rattle.laws.proofs.Repeats.{ComesTo, EndsWith, repeat_ends}
use Rattle.laws.proofs.Facts.{Shared, CartFacts, Opened, Trimmed, Left}
use Rattle.laws.proofs.Placing.{Open, came_back}
use Rattle.laws.proofs.Turns.{holding, Turned, not_turned, turned_to, Exchanged, turned_on, by_choice}
use Rattle.laws.proofs.Turns.{Vacated, evicted_t1, evicted_t2, dropped_b1, dropped_b2}
use Rattle.laws.proofs.Turns.{trimmed_not, trimmed_b1, trimmed_b2}

pub cost_at_most_two : (e : Entry) → cost e ≤ 2
cost_at_most_two e = either (λ n. n ≤ 2) e.bit (omega arith) (omega (arith, short_or_long e.filter))

cost_counts : (e : Entry) → bits e + long e ≤ cost e
cost_counts e = go e.bit
  where
    go : (b : Bool) → (if b then 1 else 0) + long e ≤ (if b then 2 else long e)
    go true = omega (arith, short_or_long e.filter)
    go false = omega arith

-- Raise changes q alone, and a q that fits fits then too.
pub raise_leaves : (P : Directory → Type 0) (n_s : ℕ) (d : Directory)
    → ((q : ℕ) → (d.q ≤ 2 * d.c → q ≤ 2 * d.c) → P (with_q q d)) → P (raise n_s d)
raise_leaves P n_s d whatever =
    either P (leb d.c (∣ d.t2 ∣ + ∣ d.b2 ∣ + ∣ d.t1 ∣ - n_s))
    (whatever (min (d.q + 1) (2 * d.c - ∣ d.t1 ∣)) (λ fits. omega arith)) (whatever d.q (λ fits. fits))

-- The accounts that a hand keeps; what both passes keep, and what a turn must bring for that.

record CartAccounted (most : ℕ) (a : Hand) : Type 0 where
  own : CartFacts a.dir
  n_s_counts : a.n_s ≡ in_cache short a.dir
  n_l_counts : a.n_l ≡ in_cache long a.dir
  moves_paid : a.moves + owing a.dir ≤ most

record CartPassing (d : Directory) (a : Hand) : Type 0 where
  turned : Turned d a
  accounted : CartAccounted (owing d) a

record TurnKeeps (e e' : Entry) (a b : Hand) : Type 0 where
  own : CartFacts b.dir
  n_s_follows : b.n_s + short e ≡ a.n_s + short e'
  n_l_follows : b.n_l + long e ≡ a.n_l + long e'
  pays : 1 + owing b.dir ≤ owing a.dir

turn_keeps : {d : Directory} {a : Hand} {t1 t2 : List Entry} {q n_s n_l : ℕ} (e e' : Entry) → e'.page ≡ e.page
    → CartPassing d a → Exchanged e e' t1 t2 a.dir
    → let b = turned_to e t1 t2 q n_s n_l a in TurnKeeps e e' a b → CartPassing d b
turn_keeps e e' same_page passing exchanged keeps = record {
  turned = turned_on passing.turned e e' same_page exchanged;
  accounted = omega (arith, exchanged short, exchanged long);
}

-- After the first pass T2 is empty or its head has its bit clear.
record Settling (d : Directory) (a : Hand) : Type 0 where
  passing : CartPassing d a
  t2_clear : at_head bits a.dir.t2 ≡ 0

-- After the second T1 is empty or its head is S with its bit clear.
record Settled (d : Directory) (a : Hand) : Type 0 where
  settling : Settling d a
  t1_clear : at_head cost a.dir.t1 ≡ 0

abbrev left_first : Hand → ℕ
left_first a = total bits a.dir.t2

abbrev left_second : Hand → ℕ
left_second a = total cost a.dir.t1

module _ (d : Directory) where
  abbrev FirstLooked : Hand → Look → Type 0
  FirstLooked = ComesTo (CartPassing d) (Settling d) left_first

  abbrev SecondLooked : Hand → Look → Type 0
  SecondLooked = ComesTo (Settling d) (Settled d) left_second

  -- T2's head: with its bit set it goes to T1's tail.
  at-t2 : (l : List Entry) (a : Hand) → let h = holding T2 l a in CartPassing d h → FirstLooked h (first_look h)
  at-t2 [] a passing = record { passing = passing; t2_clear = refl }
  at-t2 (e ∷ es) a passing =
      let t1 = a.dir.t1 in
      let h = holding T2 (e ∷ es) a in
      let h' = turn T2 T1 cleared e es h in
      by_test (FirstLooked h) e.bit
      (λ set.
      raise_leaves (λ d'. FirstLooked h (again (with_dir d' h'))) h'.n_s h'.dir
      (λ q fits. let q_fits = fits passing.accounted.own.q_fits in record {
        good = turn_keeps e e refl passing (λ count. omega (arith, total_tail count t1 (cleared e)))
            (omega (arith, total_tail cost t1 (cleared e), set_bits e set, short_or_long e.filter));
        less = omega (arith, set_bits e set);
      }))
      (λ clear. record { passing = passing; t2_clear = (clear_bits e clear).0 })

  first_looks : (a : Hand) → CartPassing d a → FirstLooked a (first_look a)
  first_looks a = at-t2 a.dir.t2 a

  module _ (e : Entry) (es : List Entry) (a : Hand) where
    abbrev held : Hand
    held = holding T1 (e ∷ es) a

    -- T1's head, its bit set, goes to T1's tail, where it is e' with its bit clear.
    round_t1 : e.bit ≡ true → (e' : Entry) → e'.page ≡ e.page → (n_s n_l : ℕ)
        → n_s + short e ≡ a.n_s + short e' → n_l + long e ≡ a.n_l + long e' → Settling d held
        → SecondLooked held (again (turned_to e (es ++ (cleared e' ∷ [])) a.dir.t2 a.dir.q n_s n_l held))
    round_t1 set e' same_page n_s n_l n_s_follows n_l_follows settling =
        let bit = set_bits e set in
        let costs = total_tail cost es (cleared e') in
        let filter = short_or_long e'.filter in
        record {
          good = record {
            passing = turn_keeps e e' same_page settling.passing
                (λ count. omega (arith, total_tail count es (cleared e'))) (omega arith);
            t2_clear = settling.t2_clear;
          };
          less = omega arith;
        }

    -- It becomes L there if it is S and the test holds.
    passes_t1 : e.bit ≡ true → Settling d held → (f : Filter) → e.filter ≡ f
        → SecondLooked held (again (pass_t1 f e es held))
    passes_t1 set settling S short_is =
        let filter = short_filter e short_is in
        either (λ b. SecondLooked held (again b)) (becomes_long (turn T1 T1 cleared e es held).dir)
        (round_t1 set (made_long e) refl (a.n_s - 1) (a.n_l + 1) (omega arith) (omega arith) settling)
        (round_t1 set e refl a.n_s a.n_l refl refl settling)
    passes_t1 set settling L long_is = round_t1 set e refl a.n_s a.n_l refl refl settling

    -- With its bit clear it stays if it is S, and goes to T2's tail if it is L.
    settles_t1 : e.bit ≡ false → Settling d held → (f : Filter) → e.filter ≡ f
        → SecondLooked held (if_long f (again (settle e es held)) (stop held))
    settles_t1 clear settling S short_is =
        record { settling = settling; t1_clear = omega (arith, clear_bits e clear, short_filter e short_is) }
    settles_t1 clear settling L long_is =
        let t2 = a.dir.t2 in
        let e' = cleared e in
        let bit = clear_bits e clear in
        let filter = long_filter e long_is in
        record {
          good = record {
            passing = turn_keeps e e refl settling.passing (λ count. omega (arith, total_tail count t2 e'))
                (omega (arith, total_tail short t2 e', total_tail bits t2 e'));
            t2_clear = head_of_tail bits t2 e' settling.t2_clear refl;
          };
          less = omega arith;
        }

  at-t1 : (l : List Entry) (a : Hand) → let h = holding T1 l a in Settling d h → SecondLooked h (second_look h)
  at-t1 [] a settling = record { settling = settling; t1_clear = refl }
  at-t1 (e ∷ es) a settling =
      by_test (SecondLooked (holding T1 (e ∷ es) a)) e.bit
      (λ set. passes_t1 e es a set settling e.filter refl)
      (λ clear. settles_t1 e es a clear settling e.filter refl)

  second_looks : (a : Hand) → Settling d a → SecondLooked a (second_look a)
  second_looks a = at-t1 a.dir.t1 a

-- What the evict part leaves.

record CartOutcome (d : Directory) (z : Hand) : Type 0 where
  evicted : Vacated 1 d z
  accounted : CartAccounted (1 + owing d) z

module _ (d : Directory) (shared : Shared d) (own : CartFacts d) (full : cached d ≡ d.c) where
  first : EndsWith first_look (Settling d) (counted d) (first_pass (counted d))
  unfolding first_pass
  first =
      let begins : CartPassing d (counted d) = record { turned = not_turned _ _ d; accounted = omega arith } in
      repeat_ends first_look (CartPassing d) (Settling d) left_first (first_looks d) _ _ begins (omega arith)

  second : EndsWith second_look (Settled d) (first_pass (counted d)) (second_pass (first_pass (counted d)))
  unfolding second_pass
  second = repeat_ends second_look (Settling d) (Settled d) left_second (second_looks d) _ _ first.holds (omega arith)

  pub cart_stops : CartStops d
  cart_stops = record { first = first.by_itself; second = second.by_itself }

  from_t1 : (l : List Entry) (a : Hand) → let h = holding T1 l a in
      Settled d h → 1 ≤ ∣ l ∣ → CartOutcome d (demote_t1 l h)
  from_t1 [] a settled some = absurd (omega arith)
  from_t1 (e ∷ es) a settled some = record {
    evicted = evicted_t1 shared e es a settled.settling.passing.turned (omega (arith, cost_counts e));
    accounted = omega (arith, cost_counts e, short_or_long e.filter, total_tail long a.dir.b1 (demoted e));
  }

  from_t2 : (l : List Entry) (a : Hand) → let h = holding T2 l a in
      Settled d h → 1 ≤ ∣ l ∣ → CartOutcome d (demote_t2 l h)
  from_t2 [] a settled some = absurd (omega arith)
  from_t2 (e ∷ es) a settled some = record {
    evicted = evicted_t2 shared e es a settled.settling.passing.turned settled.settling.t2_clear;
    accounted = omega (arith, short_or_long e.filter, total_tail short a.dir.b2 (demoted e));
  }

  demotes : (a : Hand) → Settled d a → CartOutcome d (demotion a)
  demotes a settled =
      by_choice shared full (CartOutcome d) settled.settling.passing.turned
      (from_t1 a.dir.t1 a settled) (from_t2 a.dir.t2 a settled)

  outcome : CartOutcome d (evict d)
  unfolding evict
  outcome = demotes (second_pass (first_pass (counted d))) second.holds

  pub cart_evicts : Evicts d (evict d)
  cart_evicts = outcome.evicted.evicts

  pub cart_opens : Opened d (evict d).dir
  cart_opens = outcome.evicted.opens

  pub cart_remembers : remembered (evict d).dir ≡ remembered d + 1
  cart_remembers = outcome.evicted.remembers

  pub cart_opened : CartFacts (evict d).dir
  cart_opened = outcome.accounted.own

  pub cart_counts : ((evict d).n_s ≡ in_cache short (evict d).dir) × ((evict d).n_l ≡ in_cache long (evict d).dir)
  cart_counts = (outcome.accounted.n_s_counts, outcome.accounted.n_l_counts)

  pub cart_moves : (evict d).moves + owing (evict d).dir ≤ 1 + owing d
  cart_moves = outcome.accounted.moves_paid

-- Trim leaves the directory as it was, or, where the histories are one too many, without the head of one of them.

module _ (d : Directory) where
  trim_leaves : (P : Directory → Type 0) → (¬ (remembered d ≡ d.c + 1) → P d)
      → (1 ≤ ∣ d.b1 ∣ → P (with_list B1 (drop_head d.b1) d)) → (1 ≤ ∣ d.b2 ∣ → P (with_list B2 (drop_head d.b2) d))
      → P (trim d)
  unfolding trim
  trim_leaves P all less-b1 less-b2 =
      by_test P (eqb (remembered d) (d.c + 1))
      (λ more. by_tests P (ltb d.q ∣ d.b1 ∣) (eqb ∣ d.b2 ∣ 0)
      (λ longer. less-b1 (omega (arith, ltb-true))) (λ none. less-b1 (omega (arith, eqb-true)))
      (λ shorter some. less-b2 (omega (arith, eqb-false))))
      (λ fits. all (eqb-false _ _ fits))

  pub cart_trim_has_head : CartTrimHasHead d
  unfolding trim
  cart_trim_has_head = record {
    drops-B1 = λ more oldest.
        rw (eq-eqb _ _ more)
        (by_tests (HeadDropped B1 d) (ltb d.q ∣ d.b1 ∣) (eqb ∣ d.b2 ∣ 0)
        (λ longer. dropped_b1 d (omega (arith, ltb-true))) (λ none. dropped_b1 d (omega (arith, eqb-true)))
        (λ shorter some. absurd (⊎_elim (λ longer. omega (arith, ltb-false)) (eqb-false _ _ some) oldest)));
    drops-B2 = λ more not-oldest.
        rw (eq-eqb _ _ more)
        (by_tests (HeadDropped B2 d) (ltb d.q ∣ d.b1 ∣) (eqb ∣ d.b2 ∣ 0)
        (λ longer. absurd (not-oldest (inl (ltb-true _ _ longer))))
        (λ none. absurd (not-oldest (inr (eqb-true _ _ none))))
        (λ shorter some. dropped_b2 d (omega (arith, eqb-false))));
  }

  pub cart_trims : remembered d ≤ d.c + 1 → Trimmed d (trim d)
  cart_trims history =
      trim_leaves (Trimmed d) (λ fits. trimmed_not d (omega arith)) (trimmed_b1 d history) (trimmed_b2 d history)

-- The places.

pub cart_has_room : (x : ℕ) (d : Directory) → CartFacts d → CartFacts (place_new x d)
unfolding place_new
cart_has_room x d own = omega arith

pub cart_places_new : (x : ℕ) (d : Directory) → CartFacts d → CartFacts (place_new x (trim d))
cart_places_new x d own =
    cart_has_room x (trim d)
    (trim_leaves d CartFacts (λ fits. own)
    (λ some. omega (arith, total_head_dropped long d.b1)) (λ some. omega (arith, total_head_dropped short d.b2)))

module _ (x : ℕ) (h : Hand) (o : Open x h.dir) (own : CartFacts h.dir) where
  pub cart_places_b1 : has x h.dir.b1 ≡ true → Left CartFacts x h.dir (place_b1 x h)
  unfolding place_b1
  cart_places_b1 found =
      let b1 = h.dir.b1 in
      came_back (new_long x) b1 h.dir _ o found (omega (arith, o.bounds)) refl refl
      (λ count. omega (arith, total_tail count h.dir.t1 (new_long x))) (λ count. omega arith)
      (omega (arith, total_without long x b1))

  pub cart_places_b2 : has x h.dir.b2 ≡ true → Left CartFacts x h.dir (place_b2 x h)
  unfolding place_b2
  cart_places_b2 found =
      let b2 = h.dir.b2 in
      raise_leaves (Left CartFacts x h.dir) h.n_s (back_from_b2 x h) (λ q fits.
      came_back (new_long x) b2 h.dir _ o found (omega (arith, o.bounds)) refl refl
      (λ count. omega (arith, total_tail count h.dir.t1 (new_long x))) (λ count. omega arith)
      (omega (arith, fits own.q_fits, total_without short x b2)))

pub cart_hits : (x : ℕ) (d : Directory) → CartFacts d → CartFacts (hit x d)
cart_hits x d own =
    either CartFacts (has x d.t1) (omega arith) (omega (arith, total_marked_same short (λ e. refl) x d.t2))
