-- The pages 1 to c, the same again, then a new one: the last request takes c + 1 moves under CAR and CLOCK and 2c + 1
-- under CART. Under FIFO and LRU it takes one, the first time already.
-- The directory is followed through the three parts of that trace.
use Rattle.std.specs.Prelude.{if◌then◌else◌}
use mathlib.Core.Path.{◌≡◌, refl, sym, ap, ◌∙◌}
use mathlib.Core.Bool.{Bool, true, false}
use mathlib.Core.List.{List, [], ◌∷◌, ◌++◌, append_assoc, append-nil}
use Prim.Native.Nat.{ℕ, zero, suc, ◌+◌, ◌-◌, ◌*◌, ◌≤◌, ◌<◌, max}
use native.Mathlib.Omega.{arith}
use borrow.Author.Tests.{eq-eqb, ne_eqb, le-leb}
use Rattle.terms.specs.Choice.{∣◌∣, numbers_from}
use Rattle.terms.specs.Policies.{car, cart, fifo, clock, lru}
use Rattle.figures.specs.Entry.{Entry, new_short, new_long, marked, bits, short, long, total, has, mark}
use Rattle.figures.specs.Directory.{Directory, unit, fresh, with_lists, with_q, hit, place_new}
use Rattle.figures.specs.Hand.{Hand, repeat}
use Rattle.figures.specs.Car as Car
use Rattle.figures.specs.Cart as Cart
use Rattle.figures.specs.Classics as Classics
use Rattle.figures.specs.Policy.{policy_of}
use Rattle.figures.specs.Request.{Served, request}
use Rattle.figures.specs.Demands.{all_twice, last_moves, Reaches, BoundsReached}
use Rattle.laws.proofs.Requests.{serve_hit, serve_room, serve_full, missed_moves, after, run_after, after_append}
use Rattle.laws.proofs.Lists.{is, total_append, counts_has, is_itself}

-- What f makes of n pages, from x on.
abbrev made : (ℕ → Entry) → ℕ → ℕ → List Entry
made f x zero = []
made f x (suc n) = f x ∷ made f (suc x) n

-- A page that was new and then hit.
abbrev hit_once : ℕ → Entry
hit_once x = marked (new_short x)

module _ (f : ℕ → Entry) where
  length_made : (n x : ℕ) → ∣ made f x n ∣ ≡ n
  length_made zero x = refl
  length_made (suc n) x = ap suc (length_made n (suc x))

  made_tail : (n x : ℕ) (r : List Entry) → made f x n ++ (f (x + n) ∷ r) ≡ made f x (suc n) ++ r
  made_tail zero x r = let here : x + 0 ≡ x = omega arith in rw here
  made_tail (suc n) x r = let next : x + suc n ≡ suc x + n = omega arith in rw (next, made_tail n (suc x) r)

  made_grown : (n x y : ℕ) → y ≡ x + n → made f x n ++ (f y ∷ []) ≡ made f x (suc n)
  made_grown n x y e = rw (e, made_tail n x [], append-nil)

  module _ (named : (x : ℕ) → (f x).page ≡ x) where
    not_made : (n x y : ℕ) → x + n ≤ y → has y (made f x n) ≡ false
    not_made zero x y h = refl
    not_made (suc n) x y h =
        rw (ne_eqb (f x).page y (λ e. omega (arith, named x))) (not_made n (suc x) y (omega arith))

    marks_made : (n x : ℕ) (r : List Entry) → mark (x + n) (made f x n ++ r) ≡ made f x n ++ mark (x + n) r
    marks_made zero x r = refl
    marks_made (suc n) x r =
        let other = ne_eqb (f x).page (x + suc n) (λ e. omega (arith, named x)) in
        let next : x + suc n ≡ suc x + n = omega arith in
        let behind : mark (x + suc n) (made f (suc x) n ++ r) ≡ made f (suc x) n ++ mark (x + suc n) r =
        rw next (marks_made n (suc x) r) in
        rw (other, behind)

-- While T1 alone holds pages: a new page comes to its tail, and a page of it is marked, where a hit marks it.
module _ (policy c : ℕ) where
  abbrev only : List Entry → Directory
  only t1 = with_lists t1 [] [] [] (fresh policy c)

  requests_new : (x : ℕ) (l : List Entry) → has x l ≡ false → ∣ l ∣ < c
      → (request x (only l)).dir ≡ only (l ++ (new_short x ∷ []))
  unfolding place_new
  requests_new x l lacks room =
      rw (serve_room (policy_of policy) x (only l) (rw lacks) (ne_eqb (∣ l ∣ + 0) c (λ e. omega arith)))

  requests_old : (policy_of policy).hit ≡ hit → (x : ℕ) (l : List Entry) → has x l ≡ true
      → (request x (only l)).dir ≡ only (mark x l)
  requests_old by_marking x l found =
      rw (serve_hit (policy_of policy) x (only l) (rw found), by_marking, found)

  -- The first time through: T1 fills.
  fills : (n k x : ℕ) → x ≡ 1 + k → k + n ≤ c
      → after (numbers_from x n) (only (made new_short 1 k)) ≡ only (made new_short 1 (k + n))
  fills zero k x e h = let same : k + 0 ≡ k = omega arith in rw same
  fills (suc n) k x e h =
      let lacks = not_made new_short (λ y. refl) k 1 x (omega arith) in
      let placed = requests_new x (made new_short 1 k) lacks (omega (arith, length_made new_short k 1)) in
      let step = placed ∙ ap only (made_grown new_short k 1 x e) in
      let same : k + suc n ≡ suc k + n = omega arith in
      ap (after (numbers_from (suc x) n)) step ∙ rw same (fills n (suc k) (suc x) (omega arith) (omega arith))

  -- The second time: every page is marked.
  marks : (policy_of policy).hit ≡ hit → (n k x : ℕ) → x ≡ 1 + k
      → after (numbers_from x n) (only (made hit_once 1 k ++ made new_short x n)) ≡ only (made hit_once 1 (k + n))
  marks by_marking zero k x e = let same : k + 0 ≡ k = omega arith in rw (append-nil, same)
  marks by_marking (suc n) k x e =
      let r = made new_short (suc x) n in
      let l = made hit_once 1 k ++ (new_short x ∷ r) in
      let counted = total_append (is x) (made hit_once 1 k) (new_short x ∷ r) in
      let found = counts_has x l (omega (arith, counted, is_itself x (new_short x) refl)) in
      let marked_one : mark x l ≡ made hit_once 1 (suc k) ++ r =
      rw (e, marks_made hit_once (λ y. refl) k 1, eq-eqb (1 + k) (1 + k) refl, made_tail hit_once k 1) in
      let same : k + suc n ≡ suc k + n = omega arith in
      let step = requests_old by_marking x l found ∙ ap only marked_one in
      ap (after (numbers_from (suc x) n)) step ∙ rw same (marks by_marking n (suc k) (suc x) (omega arith))

  -- Once, and both times.
  fills_once : after (numbers_from 1 c) (fresh policy c) ≡ only (made new_short 1 c)
  fills_once = let same : 0 + c ≡ c = omega arith in rw same at (fills c 0 1 refl (omega arith))

  fills_and_marks : (policy_of policy).hit ≡ hit → after (all_twice c) (fresh policy c) ≡ only (made hit_once 1 c)
  fills_and_marks by_marking =
      let same : 0 + c ≡ c = omega arith in
      rw (after_append, fills_once) (rw same at (marks by_marking c 0 1 refl))

  -- The new page: the cache is full, so that the moves are those of the evict part.
  last-moves : (trace : List ℕ) (f : ℕ → Entry) → ((x : ℕ) → (f x).page ≡ x)
      → after trace (fresh policy c) ≡ only (made f 1 c)
      → last_moves policy c trace (c + 1) ≡ ((policy_of policy).evict (only (made f 1 c))).moves
  last-moves trace f named filled =
      let d = only (made f 1 c) in
      let π = policy_of policy in
      let lacks : has (c + 1) (made f 1 c) ≡ false = not_made f named c 1 (c + 1) (omega arith) in
      let full = eq-eqb (∣ made f 1 c ∣ + 0) c (omega (arith, length_made f c 1)) in
      ap (λ (d : Directory). (request (c + 1) d).moves) (run_after _ trace (fresh policy c) ∙ filled)
      ∙ ap (λ (s : Served). s.moves) (serve_full π (c + 1) d (rw lacks) full)
      ∙ missed_moves π (c + 1) (π.evict d)

  last_moves_marked : (policy_of policy).hit ≡ hit
      → last_moves policy c (all_twice c) (c + 1) ≡ ((policy_of policy).evict (only (made hit_once 1 c))).moves
  last_moves_marked by_marking = last-moves (all_twice c) hit_once (λ x. refl) (fills_and_marks by_marking)

-- CAR: each page goes to T2 with its bit cleared, then the first of T2 is demoted.
module _ (c : ℕ) where
  abbrev turning : ℕ → List Entry → List Entry → Hand
  turning m t1 t2 = record {
    dir = with_lists t1 t2 [] [] (fresh car c);
    n_s = 0;
    n_l = 0;
    moves = m;
    cleared = m;
    page = 0;
    list = 0;
  }

  car_turns : (k j x m : ℕ) → x ≡ 1 + j → 1 ≤ j + k
      → (repeat Car.choose (suc k) (turning m (made hit_once x k) (made new_short 1 j))).moves ≡ m + k + 1
  unfolding repeat
  car_turns zero zero x m e some = absurd (omega arith)
  car_turns zero (suc j) x m e some = omega arith
  car_turns (suc k) j x m e some =
      let from_t1 = le-leb (max unit 0) (unit * suc ∣ made hit_once (suc x) k ∣) (omega arith) in
      let rest = car_turns k (suc j) (suc x) (m + 1) (omega arith) (omega arith) in
      rw (from_t1, made_grown new_short j 1 x e) (rest ∙ omega arith)

bits_marked : (n x : ℕ) → total bits (made hit_once x n) ≡ n
bits_marked zero x = refl
bits_marked (suc n) x = let h = bits_marked n (suc x) in omega arith

car_reached : Reaches car all_twice (λ c. c + 1)
unfolding Car.evict
car_reached c some most =
    let budget : total bits (made hit_once 1 c) + 0 ≡ c = omega (arith, bits_marked c 1) in
    last_moves_marked car c refl ∙ rw budget (car_turns c c 0 1 0 refl (omega arith) ∙ omega arith)

-- CART: each page goes to T1's tail and becomes L; then each goes to T2; then the first of T2 is demoted.

-- The moves when so many looks of the second pass and the demotion are over.
abbrev moves_after : ℕ → Hand → ℕ
moves_after looks h = (Cart.demotion (repeat Cart.second_look looks h)).moves

module _ (c : ℕ) where
  abbrev passing : ℕ → ℕ → ℕ → ℕ → ℕ → List Entry → List Entry → Hand
  passing n_s n_l q m cleared t1 t2 = record {
    dir = with_lists t1 t2 [] [] (with_q q (fresh cart c));
    n_s = n_s;
    n_l = n_l;
    moves = m;
    cleared = cleared;
    page = 0;
    list = 0;
  }

  settles : (k j x n_s n_l q m cl : ℕ) → x ≡ 1 + j → 1 ≤ j + k
      → moves_after (suc k) (passing n_s n_l q m cl (made new_long x k) (made new_long 1 j)) ≡ m + k + 1
  unfolding repeat
  settles zero zero x n_s n_l q m cl e some = absurd (omega arith)
  settles zero (suc j) x n_s n_l q m cl e some = omega arith
  settles (suc k) j x n_s n_l q m cl e some =
      let rest = made new_long (suc x) k in
      let settled = passing n_s n_l (max (q - 1) (c - ∣ rest ∣)) (m + 1) (cl + 0) rest in
      ap (λ (t2 : List Entry). moves_after (suc k) (settled t2)) (made_grown new_long j 1 x e)
      ∙ settles k (suc j) (suc x) n_s n_l _ (m + 1) (cl + 0) (omega arith) (omega arith)
      ∙ omega arith

  lengthens : (k j x budget n_s n_l q m cl : ℕ) → x ≡ 1 + j → 1 ≤ j + k → budget ≡ 2 * k + j
      → moves_after (suc budget) (passing n_s n_l q m cl (made hit_once x k ++ made new_long 1 j) []) ≡ m + (2 * k + j) + 1
  unfolding repeat
  lengthens zero j x budget n_s n_l q m cl e some b =
      let left : budget ≡ j = omega arith in rw left (settles j 0 1 n_s n_l q m cl refl (omega arith) ∙ omega arith)
  lengthens (suc k) j x zero n_s n_l q m cl e some b = absurd (omega arith)
  lengthens (suc k) j x (suc budget) n_s n_l q m cl e some b =
      let marked-ones = made hit_once (suc x) k in
      let long_ones = made new_long 1 j in
      let short-tail = (marked-ones ++ long_ones) ++ (new_short x ∷ []) in
      let becomes = le-leb 0 (unit * ∣ short-tail ∣) (omega arith) in
      let at_tail = append_assoc marked-ones long_ones (new_long x ∷ []) in
      let stays = passing n_s n_l q (m + 1) (cl + 1) short-tail [] in
      let lengthened : List Entry → Hand = λ t1. passing (n_s - 1) (n_l + 1) q (m + 1) (cl + 1) t1 [] in
      let ends = moves_after (suc budget) in
      ap (λ (b : Bool). ends (if b then lengthened ((marked-ones ++ long_ones) ++ (new_long x ∷ [])) else stays)) becomes
      ∙ ap (λ (t1 : List Entry). ends (lengthened t1)) at_tail
      ∙ ap (λ (l : List Entry). ends (lengthened (marked-ones ++ l))) (made_grown new_long j 1 x e)
      ∙ lengthens k (suc j) (suc x) budget _ _ q (m + 1) (cl + 1) (omega arith) (omega arith) (omega arith)
      ∙ omega arith

cost_marked : (n x : ℕ) → total Cart.cost (made hit_once x n) ≡ 2 * n
cost_marked zero x = refl
cost_marked (suc n) x = let h = cost_marked n (suc x) in omega arith

cart_reached : Reaches cart all_twice (λ c. 2 * c + 1)
unfolding Cart.evict Cart.first_pass Cart.second_pass repeat
cart_reached c some most =
    let all = made hit_once 1 c in
    let begun = passing c (total short all + 0) (total long all + 0) 0 0 0 in
    last_moves_marked cart c refl
    ∙ ap (λ (t1 : List Entry). moves_after (suc (total Cart.cost all)) (begun t1 [])) (sym (append-nil all))
    ∙ lengthens c c 0 1 (total Cart.cost all) _ _ 0 0 0 refl (omega arith) (omega (arith, cost_marked c 1))
    ∙ omega arith

-- CLOCK: each page goes to T1's tail with its bit cleared, then the first is forgotten.
module _ (c : ℕ) where
  abbrev clocking : ℕ → List Entry → Hand
  clocking m t1 = record {
    dir = only clock c t1;
    n_s = 0;
    n_l = 0;
    moves = m;
    cleared = m;
    page = 0;
    list = 0;
  }

  clock_turns : (k j x m : ℕ) → x ≡ 1 + j → 1 ≤ j + k
      → (repeat Classics.clock_look (suc k) (clocking m (made hit_once x k ++ made new_short 1 j))).moves ≡ m + k + 1
  unfolding repeat
  clock_turns zero zero x m e some = absurd (omega arith)
  clock_turns zero (suc j) x m e some = omega arith
  clock_turns (suc k) j x m e some =
      let at_tail = append_assoc (made hit_once (suc x) k) (made new_short 1 j) (new_short x ∷ []) in
      let rest = clock_turns k (suc j) (suc x) (m + 1) (omega arith) (omega arith) in
      rw (at_tail, made_grown new_short j 1 x e) (rest ∙ omega arith)

clock_reached : Reaches clock all_twice (λ c. c + 1)
unfolding Classics.clock_evict
clock_reached c some most =
    let all = made hit_once 1 c in
    let budget : total bits all + 0 ≡ c = omega (arith, bits_marked c 1) in
    let turns = rw append-nil at (clock_turns c c 0 1 0 refl (omega arith)) in
    last_moves_marked clock c refl ∙ rw budget (turns ∙ omega arith)

-- FIFO and LRU: the first page is forgotten.
head_forgotten : (policy c : ℕ) → 1 ≤ c → (Classics.evict (only policy c (made new_short 1 c))).moves ≡ 1
unfolding Classics.evict
head_forgotten policy zero some = absurd (omega arith)
head_forgotten policy (suc c) some = refl

pub bounds_reached : BoundsReached
bounds_reached = record {
  by_car = car_reached;
  by_cart = cart_reached;
  by_fifo = λ c some most.
      last-moves fifo c (numbers_from 1 c) new_short (λ x. refl) (fills_once fifo c) ∙ head_forgotten fifo c some;
  by_clock = clock_reached;
  by_lru = λ c some most.
      last-moves lru c (numbers_from 1 c) new_short (λ x. refl) (fills_once lru c) ∙ head_forgotten lru c some;
}
