-- What each look of CART's passes makes of any hand that memory shows, from what is known of the head's bit and filter.
-- Over what memory shows.
use mathlib.Core.Path.{◌≡◌, refl, sym, ap, ◌∙◌}
use mathlib.Core.Bool.{Bool, true, false, ◌||◌, false≢true}
use mathlib.Core.List.{List, [], ◌∷◌}
use Prim.Native.Nat.{ℕ, ◌+◌, ◌-◌, ◌*◌, min}
use native.Mathlib.Omega.{arith}
use lib.Dec.{leb}
use Rattle.terms.specs.Choice.{∣◌∣}
use Rattle.figures.specs.Entry.{Entry, Filter, S, L, cleared, made_long, is_long, short, total, drop_head}
use Rattle.figures.specs.Directory.{Directory, unit, T1, T2}
use Rattle.figures.specs.Hand.{Hand, with_dir, with_counts, turn, Look, again, stop}
use Rattle.figures.specs.Cart.{raise, lower, becomes_long, pass_t1, look_t1, look_t2, first_look, second_look}
use Rattle.laws.proofs.Entries.{set_bits, clear_bits, short_filter, is-long, is-short}
use Rattle.laws.proofs.Lists.{length_tail}
use Rattle.engine.specs.declared.counts.ShortCount.{ShortCount}
use Rattle.engine.specs.declared.counts.LongCount.{LongCount}
use Rattle.engine.specs.declared.counts.Kept.{Kept}
use Rattle.engine.specs.Shown.{Makes}
use Rattle.engine.specs.Heads.{front_of, head_to}
use Rattle.engine.specs.Passes.{goes_on, Accounts, KeepsCounts, Passing, ShowsHand, Looked}
use Rattle.engine.proofs.Heads.{set_front, goes_front}
use Rattle.engine.proofs.Accounts.{after_move, t2_to_t1, t1_round, t1_to_t2, raise_keeps, lower_keeps}

-- A head that does not go on is S with its bit clear.
pub stands : (e : Entry) → goes_on e ≡ false → (e.bit ≡ false) × (is_long e.filter ≡ false)
stands e = go e.bit
  where
    go : (b : Bool) → b || is_long e.filter ≡ false → (b ≡ false) × (is_long e.filter ≡ false)
    go true stops = absurd (false≢true (sym stops))
    go false stops = (refl, stops)

-- The looks, by the head e.
module _ (h : Hand) (e : Entry) (es : List Entry) where
  first_turns : h.dir.t2 ≡ e ∷ es → e.bit ≡ true
      → let h' = turn T2 T1 cleared e es h in first_look h ≡ again (with_dir (raise h.n_s h'.dir) h')
  first_turns front set = rw (front, set)

  settles : h.dir.t1 ≡ e ∷ es → e.bit ≡ false → e.filter ≡ L
      → let h' = turn T1 T2 cleared e es h in second_look h ≡ again (with_dir (lower h'.dir) h')
  settles front clear long_is = rw (front, clear, long_is)

  -- T1 is as long after the head has moved to its tail.
  test_after_turn : h.dir.t1 ≡ e ∷ es → becomes_long (turn T1 T1 cleared e es h).dir ≡ becomes_long h.dir
  test_after_turn front =
      ap (λ (n : ℕ). leb (min (h.dir.p + unit) (unit * ∣ h.dir.b1 ∣)) (unit * n))
      (length_tail es (cleared e) ∙ omega (arith, ap ∣◌∣ front))

  -- Its bit set: by its filter.
  passes : h.dir.t1 ≡ e ∷ es → e.bit ≡ true → second_look h ≡ again (pass_t1 e.filter e es h)
  passes front set = rw (front, set)

  rounds : h.dir.t1 ≡ e ∷ es → e.bit ≡ true → (is_long e.filter ≡ false → becomes_long h.dir ≡ false)
      → second_look h ≡ again (turn T1 T1 cleared e es h)
  rounds front set stays = passes front set ∙ ap again (go e.filter stays)
    where
      go : (f : Filter) → (is_long f ≡ false → becomes_long h.dir ≡ false)
          → pass_t1 f e es h ≡ turn T1 T1 cleared e es h
      go S stays = rw (test_after_turn front ∙ stays refl)
      go L stays = refl

  lengthens : h.dir.t1 ≡ e ∷ es → e.bit ≡ true → e.filter ≡ S → becomes_long h.dir ≡ true
      → second_look h ≡ again (with_counts (h.n_s - 1) (h.n_l + 1) (turn T1 T1 (λ e. made_long (cleared e)) e es h))
  lengthens front set short_is test =
      passes front set ∙ ap (λ (f : Filter). again (pass_t1 f e es h)) short_is ∙ rw (test_after_turn front ∙ test)

module _ {W : Type 0} (Shows : Directory → W → Type 0) where
  -- A move that a change of q follows, or nothing: what holds between the two, and what both make together.
  pub record Moved (look : Hand → Look) (change : Directory → Directory) (w : W) (k : Kept) (w₁ : W) (k' : Kept)
      : Type 0 where
    pub between : Passing Shows w₁ k'
    pub looked : (w₂ : W) → Makes Shows change w₁ w₂ → Looked Shows look w k w₂ k'

  -- The same of one hand h that is shown.
  record Step (look : Hand → Look) (change : Directory → Directory) (k : Kept) (w₁ : W) (k' : Kept) (h : Hand)
      : Type 0 where
    at : Hand
    turns : look h ≡ again (with_dir (change at.dir) at)
    shown : Shows at.dir w₁
    keeps : KeepsCounts at k'
    accounts : Accounts h.dir k → Accounts at.dir k'

module _ {W : Type 0} {Shows : Directory → W → Type 0} {w : W} {k : Kept} (p : Passing Shows w k) where
  -- A hand that is shown.
  abbrev shown_hand : Hand
  shown_hand = record {
    dir = p.dir;
    n_s = k.short.0;
    n_l = k.long.0;
    moves = k.hand.moves;
    cleared = k.hand.cleared;
    page = 0;
    list = 0;
  }

  moved_by : {w₁ : W} {look : Hand → Look} {change : Directory → Directory}
      → (n_s : ShortCount) (n_l : LongCount) (bits : ℕ)
      → ((d : Directory) → Accounts d (after_move n_s n_l bits k) → Accounts (change d) (after_move n_s n_l bits k))
      → ((h : Hand) → ShowsHand Shows h w k → Step Shows look change k w₁ (after_move n_s n_l bits k) h)
      → Moved Shows look change w k w₁ (after_move n_s n_l bits k)
  moved_by {change = change} n_s n_l bits keeps steps =
      let shown : ShowsHand Shows shown_hand w k =
      record { shown = p.shown; keeps = omega arith } in
      let s = steps shown_hand shown in
      let d = s.at.dir in
      let between = s.accounts p.accounts in
      record {
        between = record { dir = d; shown = s.shown; accounts = between };
        looked = λ w₂ makes. record {
          passing = record { dir = change d; shown = makes d s.shown; accounts = keeps d between };
          one_move = refl;
          turned = λ h holds.
              let t = steps h holds in
              record {
                at = with_dir (change t.at.dir) t.at;
                turns = t.turns;
                holds = record { shown = makes t.at.dir t.shown; keeps = omega (arith, t.keeps) };
              };
        };
      }

  -- T2's head, its bit set.
  pub first_looks : {w₁ : W} → ((d : Directory) → Shows d w → (front_of d.t2).bit ≡ true)
      → Makes Shows (head_to T2 T1 cleared) w w₁
      → Moved Shows first_look (raise k.short.0) w k w₁ (after_move k.short k.long (k.hand.cleared + 1) k)
  first_looks set makes =
      moved_by k.short k.long (k.hand.cleared + 1) raise_keeps
      (λ h holds.
      let l = h.dir.t2 in
      let is_set = set h.dir holds.shown in
      let front = set_front l is_set in
      record {
        at = turn T2 T1 cleared (front_of l) (drop_head l) h;
        turns = rw holds.keeps.short_is (first_turns h (front_of l) (drop_head l) front is_set);
        shown = makes h.dir holds.shown;
        keeps = omega (arith, holds.keeps, set_bits (front_of l) is_set);
        accounts = t2_to_t1 h.dir (front_of l) (drop_head l) front is_set;
      })

  -- T1's head, its bit clear and its filter L.
  pub look_settles : {w₁ : W} → ((d : Directory) → Shows d w → goes_on (front_of d.t1) ≡ true)
      → ((d : Directory) → Shows d w → (front_of d.t1).bit ≡ false)
      → Makes Shows (head_to T1 T2 cleared) w w₁
      → Moved Shows second_look lower w k w₁ (after_move k.short k.long k.hand.cleared k)
  look_settles goes clear makes =
      moved_by k.short k.long k.hand.cleared lower_keeps
      (λ h holds.
      let l = h.dir.t1 in
      let going = goes h.dir holds.shown in
      let is-clear = clear h.dir holds.shown in
      let long_is = is-long (front_of l).filter (rw is-clear at going) in
      let front = goes_front l going in
      record {
        at = turn T1 T2 cleared (front_of l) (drop_head l) h;
        turns = settles h (front_of l) (drop_head l) front is-clear long_is;
        shown = makes h.dir holds.shown;
        keeps = omega (arith, holds.keeps, clear_bits (front_of l) is-clear);
        accounts = t1_to_t2 h.dir (front_of l) (drop_head l) front is-clear long_is;
      })

  -- T1's head, its bit set: it stays S or L, or becomes L.
  pub look_goes_round : {w₁ : W} → ((d : Directory) → Shows d w → (front_of d.t1).bit ≡ true)
      → ((d : Directory) → Shows d w → is_long (front_of d.t1).filter ≡ false → becomes_long d ≡ false)
      → Makes Shows (head_to T1 T1 cleared) w w₁
      → Moved Shows second_look (λ d. d) w k w₁ (after_move k.short k.long (k.hand.cleared + 1) k)
  look_goes_round set stays makes =
      moved_by k.short k.long (k.hand.cleared + 1) (λ d a. a)
      (λ h holds.
      let l = h.dir.t1 in
      let e = front_of l in
      let is_set = set h.dir holds.shown in
      let front = set_front l is_set in
      record {
        at = turn T1 T1 cleared e (drop_head l) h;
        turns = rounds h e (drop_head l) front is_set (stays h.dir holds.shown);
        shown = makes h.dir holds.shown;
        keeps = omega (arith, holds.keeps, set_bits e is_set);
        accounts = t1_round h.dir e (drop_head l) (cleared e) k.short k.long front is_set refl refl refl;
      })

  abbrev one_short_less : ShortCount
  one_short_less = record { 0 = k.short.0 - 1 }

  abbrev one_long_more : LongCount
  one_long_more = record { 0 = k.long.0 + 1 }

  pub look_makes_long : {w₁ : W}
      → ((d : Directory) → Shows d w → let e = front_of d.t1 in (e.bit ≡ true) × (is_long e.filter ≡ false))
      → ((d : Directory) → Shows d w → becomes_long d ≡ true)
      → Makes Shows (head_to T1 T1 (λ e. made_long (cleared e))) w w₁
      → Moved Shows second_look (λ d. d) w k w₁ (after_move one_short_less one_long_more (k.hand.cleared + 1) k)
  look_makes_long short-set long makes =
      moved_by one_short_less one_long_more (k.hand.cleared + 1) (λ d a. a)
      (λ h holds.
      let l = h.dir.t1 in
      let e = front_of l in
      let is = short-set h.dir holds.shown in
      let short_is = is-short e.filter is.1 in
      let counts = short_filter e short_is in
      let front = set_front l is.0 in
      record {
        at = with_counts (h.n_s - 1) (h.n_l + 1) (turn T1 T1 (λ e. made_long (cleared e)) e (drop_head l) h);
        turns = lengthens h e (drop_head l) front is.0 short_is (long h.dir holds.shown);
        shown = makes h.dir holds.shown;
        keeps = omega (arith, holds.keeps, set_bits e is.0);
        accounts = λ a.
            t1_round h.dir e (drop_head l) (made_long (cleared e)) one_short_less one_long_more front is.0 refl
            (omega (arith, ap (total short) front, a.shorts)) (omega arith) a;
      })

-- Where the passes stop.

stops_t2 : (l : List Entry) (h : Hand) → (front_of l).bit ≡ false → look_t2 l h ≡ stop h
stops_t2 [] h clear = refl
stops_t2 (e ∷ es) h clear = rw clear

stops_t1 : (l : List Entry) (h : Hand) → goes_on (front_of l) ≡ false → look_t1 l h ≡ stop h
stops_t1 [] h stops = refl
stops_t1 (e ∷ es) h stops =
    let neither = stands e stops in
    rw (neither.0, is-short e.filter neither.1)

pub first_stops : (h : Hand) → (front_of h.dir.t2).bit ≡ false → first_look h ≡ stop h
first_stops h clear = stops_t2 h.dir.t2 h clear

pub second_stops : (h : Hand) → goes_on (front_of h.dir.t1) ≡ false → second_look h ≡ stop h
second_stops h stops = stops_t1 h.dir.t1 h stops
