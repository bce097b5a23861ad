-- What a look of CAR comes to: at a set bit the repeat goes on from there, with a set bit less; at a clear one it ends.
-- Over what memory shows, and over the chosen clock.
use Rattle.std.specs.Prelude.{if◌then◌else◌}
use mathlib.Core.Path.{◌≡◌, refl, ap, ◌∙◌}
use mathlib.Core.Bool.{Bool, true, false}
use mathlib.Core.List.{List, [], ◌∷◌, ◌++◌}
use Prim.Native.Nat.{ℕ, ◌+◌, ◌≤◌, ◌<◌}
use native.Mathlib.Omega.{arith}
use borrow.Author.Tests.{leb-true, leb-false}
use Rattle.terms.specs.Choice.{∣◌∣}
use Rattle.terms.proofs.Choice.{by_test}
use Rattle.figures.specs.Entry.{Entry, cleared, demoted, bits, total, drop_head}
use Rattle.figures.specs.Directory.{Directory, Name, T1, T2, B1, B2, list_of, in_cache, t1_at_target}
use Rattle.figures.specs.Hand.{Hand, list_word, turn, demote, again, stop, last, next}
use Rattle.figures.specs.Car.{look, choose}
use Rattle.laws.proofs.Entries.{set_bits}
use Rattle.laws.proofs.Lists.{length_tail, total_tail}
use Rattle.engine.specs.declared.Hand.{Hand as Counted}
use Rattle.engine.specs.declared.Evicted.{Evicted}
use Rattle.engine.specs.Shown.{Makes, moved_once, turned_once}
use Rattle.engine.specs.Heads.{front_of, head_to}
use Rattle.engine.specs.Choosing.{chosen, history_of, CarReady, Turning, Chosen, EndsFrom}
use Rattle.engine.proofs.Heads.{some_front}

-- THE DEFINITION'S LOOK, at the chosen clock

module _ (i : Name) (h : Hand) (is-chosen : i ≡ chosen h.dir) where
  abbrev clock : List Entry
  clock = list_of i h.dir

  looks : choose h ≡ look i (history_of i) clock h
  looks = go (t1_at_target h.dir) is-chosen
    where
      go : (b : Bool) → i ≡ (if b then T1 else T2)
          → (if b then look T1 B1 h.dir.t1 h else look T2 B2 h.dir.t2 h) ≡ look i (history_of i) clock h
      go true is = rw is refl
      go false is = rw is refl

  module _ (some : 1 ≤ ∣ clock ∣) where
    at-head : choose h
        ≡ (if (front_of clock).bit then again (turn i T2 cleared (front_of clock) (drop_head clock) h)
        else stop (demote i (history_of i) (front_of clock) (drop_head clock) h))
    at-head = looks ∙ ap (λ (l : List Entry). look i (history_of i) l h) (some_front clock some)

    looks_again : (front_of clock).bit ≡ true → choose h ≡ again (turn i T2 cleared (front_of clock) (drop_head clock) h)
    looks_again set = at-head ∙ rw set refl

    looks_stop : (front_of clock).bit ≡ false
        → choose h ≡ stop (demote i (history_of i) (front_of clock) (drop_head clock) h)
    looks_stop clear = at-head ∙ rw clear refl

-- READY AGAIN

module _ {k : Counted} (d : Directory) (r : CarReady d k) where
  -- The chosen clock has a head.
  pub chosen_some : (i : Name) → i ≡ chosen d → 1 ≤ ∣ list_of i d ∣
  chosen_some i is =
      rw is
      (by_test (λ (i : Name). 1 ≤ ∣ list_of i d ∣) (t1_at_target d)
      (λ test. omega (arith, leb-true)) (λ test. omega (arith, leb-false)))

  -- A head with its bit set becomes T2's tail: a set bit less, and a move more.
  abbrev TurnedReady : Name → Type 0
  TurnedReady i = let d' = head_to i T2 cleared d in CarReady d' (turned_once k) × (in_cache bits d' < in_cache bits d)

  turned_ready : (i : Name) → i ≡ chosen d → (front_of (list_of i d)).bit ≡ true → TurnedReady i
  turned_ready i is =
      rw is (by_test (λ (i : Name). (front_of (list_of i d)).bit ≡ true → TurnedReady i) (t1_at_target d)
      (λ test set. omega (arith, moved d.t1 d.t2 (omega (arith, leb-true)) set))
      (λ test set. omega (arith, moved d.t2 (drop_head d.t2) (omega (arith, leb-false)) set)))
    where
      -- What the clock l has without its head, and T2, which was t2 then, with it.
      moved : (l t2 : List Entry) → 1 ≤ ∣ l ∣ → (front_of l).bit ≡ true
          → let t2' = t2 ++ (cleared (front_of l) ∷ []) in
          (∣ l ∣ ≡ 1 + ∣ drop_head l ∣) × (total bits l ≡ 1 + total bits (drop_head l)) × (∣ t2' ∣ ≡ ∣ t2 ∣ + 1)
          × (total bits t2' ≡ total bits t2)
      moved l t2 some set =
          let front = some_front l some in
          let e = front_of l in
          omega (
            arith,
            ap ∣◌∣ front,
            ap (total bits) front,
            set_bits e set,
            length_tail t2 (cleared e),
            total_tail bits t2 (cleared e),
          )

-- THE LOOK OF AN ENGINE

-- The look at the chosen clock i; a head is there.
module _ {W : Type 0} {Shows : Directory → W → Type 0} {w w₁ : W} {k : Counted} (t : Turning Shows w k) (i : Name)
    (choice : Chosen Shows i w) (heads : (d : Directory) → Shows d w → 1 ≤ ∣ list_of i d ∣) where
  -- At a set bit the memory shows a directory that is ready again, with a set bit less, and from it the repeat goes on.
  module _ (set : (d : Directory) → Shows d w → (front_of (list_of i d)).bit ≡ true)
      (makes : Makes Shows (head_to i T2 cleared) w w₁) where
    pub turns_on : Turning Shows w₁ (turned_once k)
    turns_on = record {
      dir = head_to i T2 cleared t.dir;
      shown = makes t.dir t.shown;
      ready = (turned_ready t.dir t.ready i (choice t.dir t.shown) (set t.dir t.shown)).0;
    }

    pub fewer_bits : in_cache bits turns_on.dir < in_cache bits t.dir
    unfolding turns_on
    fewer_bits = (turned_ready t.dir t.ready i (choice t.dir t.shown) (set t.dir t.shown)).1

    pub goes-on : {r : Evicted} {w₂ : W} → EndsFrom Shows w₁ (turned_once k) r w₂ → EndsFrom Shows w k r w₂
    goes-on rest h shown counts =
        let is_set = set h.dir shown in
        let e = front_of (list_of i h.dir) in
        let after =
        rest (turn i T2 cleared e (drop_head (list_of i h.dir)) h) (makes h.dir shown)
        (omega (arith, counts, set_bits e is_set)) in
        record {
          at = after.at;
          ends = next (looks_again i h (choice h.dir shown) (heads h.dir shown) is_set) after.ends;
          holds = after.holds;
        }

  -- At a clear one it ends: the head is demoted.
  pub stops_here : {page list : ℕ} → list ≡ list_word i
      → ((d : Directory) → Shows d w → (front_of (list_of i d)).bit ≡ false)
      → ((d : Directory) → Shows d w → page ≡ (front_of (list_of i d)).page)
      → Makes Shows (head_to i (history_of i) demoted) w w₁
      → EndsFrom Shows w k (record { page = page; list = list; hand = moved_once k }) w₁
  stops_here list_is clear page_is makes h shown counts = record {
    at = demote i (history_of i) (front_of (list_of i h.dir)) (drop_head (list_of i h.dir)) h;
    ends = last (looks_stop i h (choice h.dir shown) (heads h.dir shown) (clear h.dir shown));
    holds = record {
      page_is = page_is h.dir shown;
      list_is = list_is;
      counts = omega (arith, counts);
      shown = makes h.dir shown;
    };
  }
