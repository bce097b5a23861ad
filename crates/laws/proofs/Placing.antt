-- Soundness of what a request leaves, as far as all policies share it: a hit, a new page, a page that comes back.
-- Each outcome is judged by what it adds to the cache and takes from the histories.
use mathlib.Core.Path.{◌≡◌, refl}
use mathlib.Core.Bool.{Bool, true, false, ◌||◌, true≢false}
use mathlib.Core.List.{List}
use Prim.Native.Nat.{ℕ, ◌+◌, ◌≤◌, ◌<◌}
use native.Mathlib.Omega.{arith}
use lib.Dec.{eqb}
use borrow.Author.Tests.{eqb-true}
use Rattle.terms.specs.Choice.{∣◌∣}
use Rattle.terms.proofs.Choice.{by_test, either}
use Rattle.figures.specs.Entry.{Entry, new_short, marked, bits, total, has, mark, without}
use Rattle.figures.specs.Directory.{Directory, T1, T2, with_lists, with_list, hit, place_new}
use Rattle.figures.specs.Directory.{cached, remembered, in_cache}
use Rattle.figures.specs.Sound.{Bounds}
use Rattle.laws.proofs.Lists.{is, one, length_counts, length_tail, length_without}
use Rattle.laws.proofs.Lists.{total_tail, total_at_most, total_marked_same, total_without}
use Rattle.laws.proofs.Lists.{has_counts, lacks_counts, counts_has, count_without, is_itself, is_at_most_one}
use Rattle.laws.proofs.Facts.{in_history, cached_counts, remembered_counts, Shared, Left, Opened, Trimmed}
use Rattle.laws.proofs.Facts.{same_cache, fewer_remembered, trimmed_cached}

-- FOUND AND COUNTED

-- A page that is counted in the cache is found there, and one that is not found is not counted.
module _ (x : ℕ) (d : Directory) where
  in_either : (a b : Bool) → (a ≡ false → b ≡ true) → a || b ≡ true
  in_either true b h = refl
  in_either false b h = h refl

  pub counted_cached : 1 ≤ in_cache (is x) d → has x d.t1 || has x d.t2 ≡ true
  counted_cached h =
      in_either (has x d.t1) (has x d.t2) (λ a. counts_has x d.t2 (omega (arith, lacks_counts x d.t1 a)))

  pub found_counted : has x d.t1 || has x d.t2 ≡ true → 1 ≤ in_cache (is x) d
  found_counted h = go (has x d.t1) refl h
    where
      go : (a : Bool) → has x d.t1 ≡ a → a || has x d.t2 ≡ true → 1 ≤ in_cache (is x) d
      go true e h = omega (arith, has_counts x d.t1 e)
      go false e h = omega (arith, has_counts x d.t2 h)

  in_neither : (a b : Bool) → a || b ≡ false → (a ≡ false) × (b ≡ false)
  in_neither true b h = absurd (true≢false h)
  in_neither false b h = (refl, h)

  pub missed_uncounted : has x d.t1 || has x d.t2 ≡ false → in_cache (is x) d ≡ 0
  missed_uncounted h =
      let n = in_neither (has x d.t1) (has x d.t2) h in
      omega (arith, lacks_counts x d.t1 n.0, lacks_counts x d.t2 n.1)

-- A HIT

-- It marks an entry of T1, or else of T2: what holds of both outcomes holds of it.
pub hit_either : (P : Directory → Type 0) (x : ℕ) (d : Directory)
    → P (with_list T1 (mark x d.t1) d) → P (with_list T2 (mark x d.t2) d) → P (hit x d)
hit_either P x d in-T1 in-T2 = either P (has x d.t1) in-T1 in-T2

-- T1 and T2 hold the same pages afterwards: all that a bit does not count for is as it was.
pub same_pages_leave : {Own : Directory → Type 0} (x : ℕ) (d : Directory) (t1 t2 : List Entry) → Shared d
    → 1 ≤ in_cache (is x) d
    → ((count : Entry → ℕ) → ((e : Entry) → count (marked e) ≡ count e)
    → total count t1 + total count t2 ≡ in_cache count d)
    → let d' = with_lists t1 t2 d.b1 d.b2 d in Own d' → Left Own x d d'
same_pages_leave x d t1 t2 s found same own =
    let size : ∣ t1 ∣ + ∣ t2 ∣ ≡ cached d =
    omega (arith, same one (λ e. refl), length_counts t1, length_counts t2, cached_counts d) in
    record {
      shared = record {
        bounds = s.bounds;
        cache_fits = omega (arith, s.cache_fits);
        history_fits = s.history_fits;
        room_no_history = λ room. s.room_no_history (omega arith);
        pages_differ = λ y. omega (arith, s.pages_differ y, same (is y) (λ e. refl));
        history_clear = s.history_clear;
      };
      own = own;
      is_cached = omega (arith, same (is x) (λ e. refl));
      same_policy = refl;
      same_c = refl;
    }

pub hit_leaves : {Own : Directory → Type 0} (x : ℕ) (d : Directory) → Shared d → 1 ≤ in_cache (is x) d → Own (hit x d)
    → Left Own x d (hit x d)
hit_leaves {Own} x d s found =
    hit_either (λ d'. Own d' → Left Own x d d') x d
    (same_pages_leave x d (mark x d.t1) d.t2 s found
    (λ count unread. omega (arith, total_marked_same count unread x d.t1)))
    (same_pages_leave x d d.t1 (mark x d.t2) s found
    (λ count unread. omega (arith, total_marked_same count unread x d.t2)))

-- A NEW PAGE

-- A directory with room for page x, which it does not list.
pub record Roomy (x : ℕ) (d : Directory) : Type 0 where
  pub bounds : Bounds d.c d.p
  pub room : cached d < d.c
  pub history_fits : remembered d ≤ d.c
  pub more_room_no_history : cached d + 1 < d.c → remembered d ≡ 0
  pub pages_differ : (y : ℕ) → in_cache (is y) d + in_history (is y) d ≤ 1
  pub not_listed : in_cache (is x) d + in_history (is x) d ≡ 0
  pub history_clear : in_history bits d ≡ 0

-- With one page more, which was not listed, each is listed once at most.
one_page : (e : Entry) (y : ℕ) (d : Directory) → in_cache (is e.page) d + in_history (is e.page) d ≡ 0
    → in_cache (is y) d + in_history (is y) d ≤ 1 → in_cache (is y) d + is y e + in_history (is y) d ≤ 1
one_page e y d none most =
    by_test (λ n. in_cache (is y) d + n + in_history (is y) d ≤ 1) (eqb e.page y)
    (λ same. rw (← eqb-true e.page y same) (omega arith)) (λ other. omega arith)

module _ (x : ℕ) (d : Directory) where
  pub new_cached : (y : ℕ) → in_cache (is y) (place_new x d) ≡ in_cache (is y) d + is y (new_short x)
  unfolding place_new
  new_cached y = omega (arith, total_tail (is y) d.t1 (new_short x))

  pub new_keeps : Roomy x d → Shared (place_new x d)
  unfolding place_new
  new_keeps r =
      let e = new_short x in
      let n = length_tail d.t1 e in
      record {
        bounds = r.bounds;
        cache_fits = omega (arith, r.room);
        history_fits = r.history_fits;
        room_no_history = λ more. r.more_room_no_history (omega arith);
        pages_differ = λ y.
            omega (arith, total_tail (is y) d.t1 e, one_page e y d r.not_listed (r.pages_differ y));
        history_clear = r.history_clear;
      }

-- A directory that the evict part has left: room for one page, and the histories may hold one too many.
pub record Open (x : ℕ) (d : Directory) : Type 0 where
  pub bounds : Bounds d.c d.p
  pub room : cached d + 1 ≡ d.c
  pub history_most : remembered d ≤ d.c + 1
  pub pages_differ : (y : ℕ) → in_cache (is y) d + in_history (is y) d ≤ 1
  pub not-cached : in_cache (is x) d ≡ 0
  pub history_clear : in_history bits d ≡ 0

pub opened_open : (x : ℕ) (d d' : Directory) → Shared d → cached d ≡ d.c → in_cache (is x) d ≡ 0 → Opened d d'
    → Open x d'
opened_open x d d' s full missed o =
    let c = o.same_c in
    let p = o.same_p in
    record {
      bounds = omega (arith, s.bounds);
      room = omega (arith, o.one_less);
      history_most = omega (arith, o.one_more, s.history_fits);
      pages_differ = λ y. omega (arith, o.none_listed y, s.pages_differ y);
      not-cached = omega (arith, o.none_enters x);
      history_clear = o.history_clear;
    }

-- Trim makes the histories fit.
pub trimmed_roomy : (x : ℕ) (d d' : Directory) → Open x d → has x d.b1 ≡ false → has x d.b2 ≡ false
    → Trimmed d d' → Roomy x d'
trimmed_roomy x d d' o not-b1 not-b2 t =
    let c = t.same_c in
    let p = t.same_p in
    let size = trimmed_cached t in
    let b1 = lacks_counts x d.b1 not-b1 in
    let b2 = lacks_counts x d.b2 not-b2 in
    record {
      bounds = omega (arith, o.bounds);
      room = omega (arith, o.room);
      history_fits = omega (arith, t.history_fits);
      more_room_no_history = λ more. absurd (omega (arith, o.room));
      pages_differ = λ y. omega (arith, o.pages_differ y, same_cache t (is y), fewer_remembered t (is y));
      not_listed = omega (arith, o.not-cached, same_cache t (is x), fewer_remembered t (is x));
      history_clear = omega (arith, o.history_clear, fewer_remembered t bits);
    }

-- A miss while there is room.
pub room_roomy : (x : ℕ) (d : Directory) → Shared d → cached d < d.c → in_cache (is x) d ≡ 0 → Roomy x d
room_roomy x d s room missed =
    let none = s.room_no_history room in
    let most = total_at_most (is x) 1 (is_at_most_one x) in
    record {
      bounds = s.bounds;
      room = room;
      history_fits = s.history_fits;
      more_room_no_history = λ more. none;
      pages_differ = s.pages_differ;
      not_listed = omega (arith, most d.b1, most d.b2);
      history_clear = s.history_clear;
    }

-- A PAGE THAT COMES BACK

without_counts : (e : Entry) (y : ℕ) (l : List Entry) → has e.page l ≡ true
    → total (is y) (without e.page l) + is y e ≤ total (is y) l
without_counts e y l found =
    by_test (λ n. total (is y) (without e.page l) + n ≤ total (is y) l) (eqb e.page y)
    (λ same. rw (← eqb-true e.page y same) (omega (arith, count_without e.page l found)))
    (λ other. omega (arith, total_without (is y) e.page l))

-- It enters the cache as e, and leaves the history l, which had it.
pub came_back : {Own : Directory → Type 0} (e : Entry) (l : List Entry) (d d' : Directory) → Open e.page d
    → has e.page l ≡ true → Bounds d'.c d'.p → d'.policy ≡ d.policy → d'.c ≡ d.c
    → ((count : Entry → ℕ) → in_cache count d' ≡ in_cache count d + count e)
    → ((count : Entry → ℕ) → in_history count d' + total count l ≡ in_history count d + total count (without e.page l))
    → Own d' → Left Own e.page d d'
came_back e l d d' o found bounds policy c enters leaves own =
    let x = e.page in
    let one_more : cached d' ≡ cached d + 1 = omega (arith, enters one, cached_counts d, cached_counts d') in
    let shorter : total one l ≡ total one (without x l) + 1 =
    omega (arith, length_without x l found, length_counts l, length_counts (without x l)) in
    let one_less : remembered d' + 1 ≡ remembered d =
    omega (arith, leaves one, remembered_counts d, remembered_counts d') in
    record {
      shared = record {
        bounds = bounds;
        cache_fits = omega (arith, o.room);
        history_fits = omega (arith, o.history_most);
        room_no_history = λ more. absurd (omega (arith, o.room));
        pages_differ = λ y.
            omega (arith, enters (is y), leaves (is y), without_counts e y l found, o.pages_differ y);
        history_clear = omega (arith, leaves bits, total_without bits x l, o.history_clear);
      };
      own = own;
      is_cached = omega (arith, enters (is x), is_itself x e refl);
      same_policy = policy;
      same_c = c;
    }
