-- The runs that document 01 shows, P1 to P12; traces that show the errors that look right, E1 to E45; FIFO, CLOCK and
-- LRU, C1 to C15; and directories that break one rule of soundness, U1 to U37, or stand at its limit, S1 to S10. See
-- docs/FAULTS.md.
use Rattle.std.specs.Prelude.{◌≡◌, Bool, true, false, List, [], ◌∷◌, ◌++◌, map, ℕ, ◌*◌, ◌-◌, get_or, take, drop, replicate, eqb, if◌then◌else◌}
use Rattle.terms.specs.Choice.{∣◌∣, every, same}
use Rattle.terms.specs.Policies.{car, cart, fifo, clock, lru}
use Rattle.figures.specs.Directory.{unit, fresh}
use Rattle.figures.specs.Words.{words}
use Rattle.figures.specs.Sound.{sound}
use Rattle.figures.specs.Request.{Served, request}
use Rattle.figures.specs.Run.{Ran, run}

-- A case replays its trace from a fresh directory; what it shows is the last request's answer and the directory then.
-- A list is shown by its words: page, flags, page, flags and so on, from head to tail.
pub data Shown : Type 0 where
  -- kind, evicted page, list it came from, hand moves
  answered : ℕ → ℕ → ℕ → ℕ → Shown
  -- the reference bits that the last request cleared
  cleared : ℕ → Shown
  -- the tally of all requests: how many, hits, misses, evictions, hand moves
  tallied : ℕ → ℕ → ℕ → ℕ → ℕ → Shown
  -- the target p in whole pages, and q
  p q : ℕ → Shown
  t1 t2 b1 b2 : List ℕ → Shown

pub record Case : Type 0 where
  pub policy : ℕ
  pub c : ℕ
  pub trace : List ℕ
  pub shows : List Shown

-- The last request by itself, the others replayed before it: a run does not keep the bits that it cleared.
abbrev pub last_of : Case → Served
last_of k =
    let n = ∣ k.trace ∣ - 1 in
    request (get_or k.trace n 0) (run (take n k.trace) (fresh k.policy k.c)).dir

abbrev pub shown : Ran → Served → Shown → Bool
shown r s (answered kind page list moves) =
    same (drop (∣ r.answers ∣ - 4) r.answers) (kind ∷ page ∷ list ∷ moves ∷ [])
shown r s (cleared n) = eqb s.cleared n
shown r s (tallied requests hits misses evictions moves) =
    let t = r.tally in
    same
    (t.requests ∷ t.hits ∷ t.misses ∷ t.evictions ∷ t.moves ∷ [])
    (requests ∷ hits ∷ misses ∷ evictions ∷ moves ∷ [])
shown r s (p n) = eqb r.dir.p (unit * n)
shown r s (q n) = eqb r.dir.q n
shown r s (t1 w) = same (words r.dir.t1) w
shown r s (t2 w) = same (words r.dir.t2) w
shown r s (b1 w) = same (words r.dir.b1) w
shown r s (b2 w) = same (words r.dir.b2) w

unfoldable pub holds : Case → Bool
holds k = let r = run k.trace (fresh k.policy k.c) in every (map (shown r (last_of k)) k.shows)

abbrev pub case : ℕ → ℕ → List ℕ → List Shown → Case
case policy c trace shows = record { policy = policy; c = c; trace = trace; shows = shows }

-- "The page order of the cases below is that of this trace unless given."
abbrev pub first : ℕ → List ℕ
first n = take n (1 ∷ 2 ∷ 1 ∷ 3 ∷ 2 ∷ 1 ∷ 4 ∷ 2 ∷ [])

abbrev pub p1_to_p12 : List Case
p1_to_p12 =
    -- P1
    case car 2 (first 4) (answered 2 2 1 2 ∷ [])
    -- P2
    ∷ case car 2 (first 5) (answered 3 3 1 1 ∷ p 1 ∷ [])
    -- P3
    ∷ case car 2 (first 7) (answered 2 2 2 2 ∷ [])
    -- P4
    ∷ case car 2 (first 8) (
    answered 4 4 1 1
    ∷ t1 []
    ∷ t2 (1 ∷ 0 ∷ 2 ∷ 0 ∷ [])
    ∷ b1 (3 ∷ 0 ∷ 4 ∷ 0 ∷ [])
    ∷ b2 []
    ∷ p 0
    ∷ [])
    -- P5
    ∷ case car 2 (first 8 ++ (5 ∷ [])) (
    answered 2 1 2 1
    ∷ t1 (5 ∷ 0 ∷ [])
    ∷ t2 (2 ∷ 0 ∷ [])
    ∷ b1 (4 ∷ 0 ∷ [])
    ∷ b2 (1 ∷ 0 ∷ [])
    ∷ [])
    -- P6
    ∷ case cart 2 (first 4) (answered 2 2 1 2 ∷ [])
    -- P7
    ∷ case cart 2 (first 5) (answered 3 3 1 2 ∷ p 1 ∷ q 1 ∷ [])
    -- P8
    ∷ case cart 2 (first 7) (answered 2 2 2 4 ∷ [])
    -- P9
    ∷ case cart 2 (first 8) (
    answered 4 4 1 1
    ∷ t1 (2 ∷ 2 ∷ [])
    ∷ t2 (1 ∷ 2 ∷ [])
    ∷ b1 (3 ∷ 0 ∷ 4 ∷ 0 ∷ [])
    ∷ p 0
    ∷ q 3
    ∷ [])
    -- P10
    ∷ case car 2 (1 ∷ 2 ∷ 1 ∷ 2 ∷ 3 ∷ []) (answered 2 1 2 3 ∷ [])
    -- P11
    ∷ case cart 2 (1 ∷ 2 ∷ 1 ∷ 2 ∷ 3 ∷ []) (answered 2 1 2 5 ∷ q 2 ∷ [])
    -- P12
    ∷ case car 1 (1 ∷ 2 ∷ []) (answered 2 1 1 1 ∷ t1 (2 ∷ 0 ∷ []) ∷ t2 [] ∷ b1 [] ∷ b2 [] ∷ [])
    ∷ []

-- Each trace was searched for, so that the reading named before it gives something else. E1, E2 and so on, in order.
abbrev pub looks_right : List Case
looks_right =
    -- E1 trimming before evicting, in CART too: B1 then keeps 1 and 2
    case cart 1 (1 ∷ 2 ∷ 3 ∷ []) (answered 2 2 1 1 ∷ b1 (2 ∷ 0 ∷ []) ∷ b2 [] ∷ [])
    -- E2 the page out of B1 before the quotient, CAR: the divisor is 2 and not 1, so p grows to 2 and not to 3
    ∷ case car 3 (5 ∷ 8 ∷ 5 ∷ 4 ∷ 7 ∷ 4 ∷ 6 ∷ 6 ∷ 1 ∷ 7 ∷ 1 ∷ []) (
    answered 3 4 2 1
    ∷ p 2
    ∷ t1 []
    ∷ t2 (6 ∷ 0 ∷ 7 ∷ 0 ∷ 1 ∷ 0 ∷ [])
    ∷ b1 (8 ∷ 0 ∷ [])
    ∷ b2 (5 ∷ 0 ∷ 4 ∷ 0 ∷ [])
    ∷ [])
    -- E3 the same with one entry in B1, where the divisor would be zero
    ∷ case car 2 (6 ∷ 1 ∷ 6 ∷ 5 ∷ 5 ∷ 3 ∷ 3 ∷ 1 ∷ []) (answered 3 5 2 2 ∷ p 2 ∷ b1 [] ∷ [])
    -- E4 the same in CART: p grows to 1 and not to 2
    ∷ case cart 3 (8 ∷ 5 ∷ 2 ∷ 3 ∷ 8 ∷ []) (answered 3 5 1 1 ∷ p 1 ∷ b1 (5 ∷ 0 ∷ []) ∷ [])
    -- E5 demoting from T2 to B1, as the prose says
    ∷ case car 1 (1 ∷ 1 ∷ 2 ∷ []) (answered 2 1 2 2 ∷ b1 [] ∷ b2 (1 ∷ 0 ∷ []) ∷ [])
    -- E6 max(q−1, ..) with wrapping numbers at q = 0, and |T1| of line 33 before the move: q is 1
    ∷ case cart 1 (1 ∷ 1 ∷ 2 ∷ []) (answered 2 1 2 3 ∷ q 1 ∷ b1 [] ∷ b2 (1 ∷ 2 ∷ []) ∷ [])
    -- E7 page 0 as an empty entry, in T1
    ∷ case car 2 (0 ∷ 0 ∷ []) (answered 0 0 0 0 ∷ t1 (0 ∷ 1 ∷ []) ∷ [])
    -- E8 page 0 as an empty entry, in B1
    ∷ case cart 1 (0 ∷ 7 ∷ 0 ∷ []) (answered 3 7 1 1 ∷ t1 (0 ∷ 2 ∷ []) ∷ b1 (7 ∷ 0 ∷ []) ∷ [])
    -- E9 n_L for n_S where a page comes back from B1
    ∷ case cart 5 (3 ∷ 10 ∷ 2 ∷ 1 ∷ 4 ∷ 9 ∷ 3 ∷ []) (answered 3 10 1 1 ∷ p 2 ∷ [])
    -- E10 n_S for n_L where a page comes back from B2
    ∷ case cart 3 (4 ∷ 6 ∷ 8 ∷ 8 ∷ 8 ∷ 1 ∷ 4 ∷ 6 ∷ 4 ∷ 2 ∷ 6 ∷ 8 ∷ []) (answered 4 2 1 2 ∷ p 0 ∷ q 4 ∷ [])
    -- E11 n_S as it was before the demotion
    ∷ case cart 4 (9 ∷ 4 ∷ 5 ∷ 1 ∷ 3 ∷ 9 ∷ []) (answered 3 4 1 1 ∷ p 1 ∷ [])
    -- E12 p not capped at c, CAR
    ∷ case car 2 (5 ∷ 2 ∷ 5 ∷ 1 ∷ 2 ∷ 4 ∷ 4 ∷ 1 ∷ []) (answered 3 2 2 2 ∷ p 2 ∷ [])
    -- E13 p not capped at c, CART
    ∷ case cart 1 (2 ∷ 1 ∷ 2 ∷ 1 ∷ []) (answered 3 2 2 2 ∷ p 1 ∷ q 1 ∷ [])
    -- E14 q raised without the test
    ∷ case cart 2 (5 ∷ 2 ∷ 5 ∷ 3 ∷ 4 ∷ 5 ∷ 2 ∷ []) (answered 3 4 1 2 ∷ p 1 ∷ q 1 ∷ [])
    -- E15 q raised with n_L for n_S, or not at all, at line 20
    ∷ case cart 2 (2 ∷ 2 ∷ 1 ∷ 1 ∷ 3 ∷ 2 ∷ []) (answered 4 3 1 1 ∷ q 3 ∷ [])
    -- E16 q raised before the page has moved, at line 20
    ∷ case cart 1 (2 ∷ 2 ∷ 1 ∷ 2 ∷ []) (answered 4 1 1 1 ∷ q 1 ∷ [])
    -- E17 line 30 with p for p + 1
    ∷ case cart 2 (5 ∷ 4 ∷ 2 ∷ 5 ∷ 6 ∷ 6 ∷ 4 ∷ []) (answered 3 6 1 3 ∷ p 2 ∷ q 1 ∷ b1 (2 ∷ 0 ∷ 6 ∷ 0 ∷ []) ∷ [])
    -- E18 line 30 without B1
    ∷ case cart 1 (1 ∷ 2 ∷ 1 ∷ 3 ∷ 3 ∷ 2 ∷ []) (answered 3 3 2 3 ∷ p 1 ∷ b1 [] ∷ b2 (3 ∷ 2 ∷ []) ∷ [])
    -- E19 CART's trim with |B1| ≥ q for |B1| > q
    ∷ case cart 1 (1 ∷ 2 ∷ 1 ∷ 3 ∷ []) (answered 2 1 2 2 ∷ b1 (2 ∷ 0 ∷ []) ∷ b2 [] ∷ [])
    -- E20 going on after a page of T1 is demoted (line 26), and CAR's line 6 without T1: B1 then keeps 1
    ∷ case car 2 (1 ∷ 2 ∷ 2 ∷ 3 ∷ []) (
    answered 2 1 1 1
    ∷ p 0
    ∷ t1 (2 ∷ 1 ∷ 3 ∷ 0 ∷ [])
    ∷ t2 []
    ∷ b1 []
    ∷ b2 []
    ∷ [])
    -- E21 CAR's B2 not trimmed, or its most recent page discarded (lines 8 and 9); cleared bits not counted
    ∷ case car 1 (1 ∷ 1 ∷ 2 ∷ 2 ∷ 3 ∷ []) (
    answered 2 2 2 2
    ∷ cleared 1
    ∷ p 0
    ∷ t1 (3 ∷ 0 ∷ [])
    ∷ t2 []
    ∷ b1 []
    ∷ b2 (2 ∷ 0 ∷ [])
    ∷ [])
    -- E22 p − 1 at p = 0 with wrapping numbers, CAR
    ∷ case car 1 (1 ∷ 1 ∷ 2 ∷ 1 ∷ []) (
    answered 4 2 1 1
    ∷ p 0
    ∷ t1 []
    ∷ t2 (1 ∷ 0 ∷ [])
    ∷ b1 (2 ∷ 0 ∷ [])
    ∷ b2 []
    ∷ [])
    -- E23 line 18 of Figure 2 without max(1, ..): |B1|/|B2| is 0 there, and p stays 1
    ∷ case car 1 (1 ∷ 1 ∷ 2 ∷ 1 ∷ 2 ∷ 1 ∷ []) (
    answered 4 2 2 1
    ∷ p 0
    ∷ t1 []
    ∷ t2 (1 ∷ 0 ∷ [])
    ∷ b1 []
    ∷ b2 (2 ∷ 0 ∷ [])
    ∷ [])
    -- E24 going on after a page of T2 is demoted (line 33)
    ∷ case car 2 (1 ∷ 1 ∷ 2 ∷ 3 ∷ 2 ∷ 2 ∷ 3 ∷ []) (
    answered 3 1 2 1
    ∷ p 2
    ∷ t1 []
    ∷ t2 (2 ∷ 1 ∷ 3 ∷ 0 ∷ [])
    ∷ b1 []
    ∷ b2 (1 ∷ 0 ∷ [])
    ∷ [])
    -- E25 line 18 of Figure 2 with the quotient turned, left out, or taken when the page has left B2: p is 0
    ∷ case car 4 (1 ∷ 1 ∷ 2 ∷ 3 ∷ 4 ∷ 5 ∷ 2 ∷ 3 ∷ 6 ∷ 1 ∷ []) (
    answered 4 5 1 1
    ∷ p 0
    ∷ t1 (6 ∷ 0 ∷ [])
    ∷ t2 (2 ∷ 0 ∷ 3 ∷ 0 ∷ 1 ∷ 0 ∷ [])
    ∷ b1 (4 ∷ 0 ∷ 5 ∷ 0 ∷ [])
    ∷ b2 []
    ∷ [])
    -- E26 q not 0 at first
    ∷ case cart 1 (1 ∷ []) (answered 1 0 0 0 ∷ p 0 ∷ q 0 ∷ t1 (1 ∷ 0 ∷ []) ∷ t2 [] ∷ b1 [] ∷ b2 [] ∷ [])
    -- E27 line 30 without p + 1
    ∷ case cart 2 (1 ∷ 1 ∷ 2 ∷ 3 ∷ 4 ∷ 4 ∷ 2 ∷ []) (
    answered 3 1 2 3
    ∷ p 1
    ∷ q 2
    ∷ t1 (2 ∷ 2 ∷ [])
    ∷ t2 (4 ∷ 2 ∷ [])
    ∷ b1 (3 ∷ 0 ∷ [])
    ∷ b2 (1 ∷ 2 ∷ [])
    ∷ [])
    -- E28 the most recent page of B2 removed (line 9 of Figure 3); q raised by a test without B2
    ∷ case cart 2 (1 ∷ 2 ∷ 3 ∷ 1 ∷ 2 ∷ 4 ∷ 3 ∷ 5 ∷ 2 ∷ []) (
    answered 4 3 2 2
    ∷ cleared 0
    ∷ p 1
    ∷ q 2
    ∷ t1 (5 ∷ 0 ∷ 2 ∷ 2 ∷ [])
    ∷ t2 []
    ∷ b1 (4 ∷ 0 ∷ [])
    ∷ b2 (3 ∷ 2 ∷ [])
    ∷ [])
    -- E29 line 25 without the raise, or with it before the move; line 33 with q for q − 1
    ∷ case cart 2 (1 ∷ 1 ∷ 2 ∷ 2 ∷ 3 ∷ 2 ∷ 4 ∷ 5 ∷ 2 ∷ 4 ∷ []) (
    answered 3 5 1 2
    ∷ p 1
    ∷ q 2
    ∷ t1 (2 ∷ 2 ∷ 4 ∷ 2 ∷ [])
    ∷ t2 []
    ∷ b1 (5 ∷ 0 ∷ [])
    ∷ b2 (1 ∷ 2 ∷ [])
    ∷ [])
    -- E30 line 30 without n_S − 1, or without n_L + 1; trimming for a page in B2
    ∷ case cart 3 (1 ∷ 2 ∷ 3 ∷ 4 ∷ 1 ∷ 2 ∷ 5 ∷ 6 ∷ 5 ∷ 1 ∷ []) (
    answered 4 6 1 2
    ∷ p 0
    ∷ q 3
    ∷ t1 (5 ∷ 2 ∷ 1 ∷ 2 ∷ [])
    ∷ t2 (2 ∷ 2 ∷ [])
    ∷ b1 (3 ∷ 0 ∷ 4 ∷ 0 ∷ 6 ∷ 0 ∷ [])
    ∷ b2 []
    ∷ [])
    -- E31 line 23 with if for while; p − 1 at p = 0 with wrapping numbers, CART
    ∷ case cart 3 (1 ∷ 1 ∷ 2 ∷ 2 ∷ 3 ∷ 3 ∷ 4 ∷ 2 ∷ 3 ∷ 1 ∷ []) (
    answered 4 4 1 3
    ∷ p 0
    ∷ q 3
    ∷ t1 (2 ∷ 2 ∷ 3 ∷ 2 ∷ 1 ∷ 2 ∷ [])
    ∷ t2 []
    ∷ b1 (4 ∷ 0 ∷ [])
    ∷ b2 []
    ∷ [])
    -- E32 line 33 with c − |T1| alone
    ∷ case cart 3 (1 ∷ 1 ∷ 2 ∷ 2 ∷ 3 ∷ 3 ∷ 4 ∷ 2 ∷ 5 ∷ 4 ∷ []) (
    answered 3 5 1 2
    ∷ p 1
    ∷ q 3
    ∷ t1 (4 ∷ 2 ∷ [])
    ∷ t2 (3 ∷ 2 ∷ 2 ∷ 2 ∷ [])
    ∷ b1 (5 ∷ 0 ∷ [])
    ∷ b2 (1 ∷ 2 ∷ [])
    ∷ [])
    -- E33 CART's trim without 'or B2 is empty', or with p for q; line 25 with n_L for n_S
    ∷ case cart 3 (1 ∷ 1 ∷ 2 ∷ 2 ∷ 3 ∷ 3 ∷ 4 ∷ 5 ∷ 6 ∷ 2 ∷ 7 ∷ 2 ∷ 8 ∷ []) (
    answered 2 7 1 2
    ∷ p 0
    ∷ q 4
    ∷ t1 (2 ∷ 2 ∷ 8 ∷ 0 ∷ [])
    ∷ t2 (3 ∷ 2 ∷ [])
    ∷ b1 (5 ∷ 0 ∷ 6 ∷ 0 ∷ 7 ∷ 0 ∷ [])
    ∷ b2 []
    ∷ [])
    -- E34 line 39 without n_L − 1
    ∷ case cart 4 (1 ∷ 1 ∷ 2 ∷ 2 ∷ 3 ∷ 3 ∷ 4 ∷ 5 ∷ 4 ∷ 5 ∷ 1 ∷ []) (
    answered 4 2 2 2
    ∷ p 1
    ∷ q 5
    ∷ t1 (1 ∷ 2 ∷ [])
    ∷ t2 (3 ∷ 2 ∷ 4 ∷ 2 ∷ 5 ∷ 2 ∷ [])
    ∷ b1 []
    ∷ b2 (2 ∷ 2 ∷ [])
    ∷ [])
    -- E35 line 18 of Figure 2 with p set to 0 at once
    ∷ case car 2 (1 ∷ 1 ∷ 2 ∷ 3 ∷ 2 ∷ 3 ∷ 1 ∷ []) (
    answered 4 2 2 1
    ∷ p 1
    ∷ t1 []
    ∷ t2 (3 ∷ 0 ∷ 1 ∷ 0 ∷ [])
    ∷ b1 []
    ∷ b2 (2 ∷ 0 ∷ [])
    ∷ [])
    -- E36 the head of B2 taken out where another of its pages is requested
    ∷ case car 2 (1 ∷ 1 ∷ 2 ∷ 2 ∷ 3 ∷ 3 ∷ 4 ∷ 2 ∷ []) (
    answered 4 4 1 1
    ∷ p 0
    ∷ t1 []
    ∷ t2 (3 ∷ 0 ∷ 2 ∷ 0 ∷ [])
    ∷ b1 (4 ∷ 0 ∷ [])
    ∷ b2 (1 ∷ 0 ∷ [])
    ∷ [])
    -- E37 line 30 for an L page too: n_S and n_L then change
    ∷ case cart 2 (1 ∷ 2 ∷ 3 ∷ 1 ∷ 2 ∷ 4 ∷ 3 ∷ 3 ∷ 5 ∷ 2 ∷ []) (
    answered 4 5 1 2
    ∷ p 1
    ∷ q 2
    ∷ t1 (3 ∷ 2 ∷ 2 ∷ 2 ∷ [])
    ∷ t2 []
    ∷ b1 (4 ∷ 0 ∷ 5 ∷ 0 ∷ [])
    ∷ b2 []
    ∷ [])
    -- E38 line 30 with n_L for n_S, or n_S for n_L
    ∷ case cart 3 (1 ∷ 2 ∷ 3 ∷ 4 ∷ 1 ∷ 2 ∷ 5 ∷ 3 ∷ 2 ∷ 6 ∷ 7 ∷ 8 ∷ 6 ∷ 2 ∷ []) (
    answered 4 7 1 2
    ∷ p 2
    ∷ q 2
    ∷ t1 (8 ∷ 0 ∷ 6 ∷ 2 ∷ 2 ∷ 2 ∷ [])
    ∷ t2 []
    ∷ b1 (4 ∷ 0 ∷ 5 ∷ 0 ∷ 7 ∷ 0 ∷ [])
    ∷ b2 []
    ∷ [])
    -- E39 line 39 with n_S for n_L
    ∷ case cart 5 (1 ∷ 9 ∷ 5 ∷ 7 ∷ 4 ∷ 9 ∷ 0 ∷ 0 ∷ 5 ∷ 2 ∷ 2 ∷ 10 ∷ 1 ∷ 1 ∷ 6 ∷ 10 ∷ 9 ∷ []) (
    answered 4 5 2 2
    ∷ p 0
    ∷ q 6
    ∷ t1 (9 ∷ 2 ∷ [])
    ∷ t2 (0 ∷ 2 ∷ 2 ∷ 2 ∷ 1 ∷ 2 ∷ 10 ∷ 2 ∷ [])
    ∷ b1 (7 ∷ 0 ∷ 4 ∷ 0 ∷ 6 ∷ 0 ∷ [])
    ∷ b2 (5 ∷ 2 ∷ [])
    ∷ [])
    -- E40 line 15 of Figure 2 with the quotient rounded up
    ∷ case car 4 (1 ∷ 1 ∷ 2 ∷ 2 ∷ 3 ∷ 3 ∷ 4 ∷ 5 ∷ 4 ∷ 5 ∷ 6 ∷ 7 ∷ 8 ∷ 6 ∷ []) (
    answered 3 7 1 1
    ∷ p 3
    ∷ t1 (8 ∷ 0 ∷ [])
    ∷ t2 (4 ∷ 0 ∷ 5 ∷ 0 ∷ 6 ∷ 0 ∷ [])
    ∷ b1 (7 ∷ 0 ∷ [])
    ∷ b2 (1 ∷ 0 ∷ 2 ∷ 0 ∷ 3 ∷ 0 ∷ [])
    ∷ [])
    -- E41 line 18 of Figure 2 with the quotient rounded up
    ∷ case car 4 (1 ∷ 1 ∷ 2 ∷ 2 ∷ 3 ∷ 4 ∷ 5 ∷ 3 ∷ 4 ∷ 6 ∷ 7 ∷ 8 ∷ 1 ∷ []) (
    answered 4 7 1 1
    ∷ p 1
    ∷ t1 (8 ∷ 0 ∷ [])
    ∷ t2 (3 ∷ 0 ∷ 4 ∷ 0 ∷ 1 ∷ 0 ∷ [])
    ∷ b1 (5 ∷ 0 ∷ 6 ∷ 0 ∷ 7 ∷ 0 ∷ [])
    ∷ b2 (2 ∷ 0 ∷ [])
    ∷ [])
    -- E42 T2 counted twice in the test of "raise q"
    ∷ case cart 3 (1 ∷ 2 ∷ 2 ∷ 1 ∷ 3 ∷ 4 ∷ 5 ∷ 1 ∷ 4 ∷ []) (
    answered 3 5 1 2
    ∷ p 1
    ∷ q 2
    ∷ t1 (1 ∷ 2 ∷ 4 ∷ 2 ∷ [])
    ∷ t2 (2 ∷ 2 ∷ [])
    ∷ b1 (3 ∷ 0 ∷ 5 ∷ 0 ∷ [])
    ∷ b2 []
    ∷ [])
    -- E43 B2 counted twice in the test of "raise q"
    ∷ case cart 3 (1 ∷ 2 ∷ 3 ∷ 4 ∷ 1 ∷ 2 ∷ 5 ∷ 6 ∷ 2 ∷ 1 ∷ []) (
    answered 4 5 1 2
    ∷ p 1
    ∷ q 2
    ∷ t1 (6 ∷ 0 ∷ 2 ∷ 2 ∷ 1 ∷ 2 ∷ [])
    ∷ t2 []
    ∷ b1 (3 ∷ 0 ∷ 4 ∷ 0 ∷ 5 ∷ 0 ∷ [])
    ∷ b2 []
    ∷ [])
    -- E44 the tally of the run to reproduce, with hits for misses, or a miss with room as an eviction
    ∷ case car 2 (first 8) (tallied 8 2 6 4 6 ∷ [])
    -- E45 the same in CART, with misses for moves, or the last request's moves for their sum
    ∷ case cart 2 (first 8) (tallied 8 2 6 4 9 ∷ [])
    ∷ []

-- Request 1 of 02: each evicts and forgets, a hit marks or moves a page or does neither. C1, C2 and so on, in order.
abbrev pub classics : List Case
classics =
    -- C1 FIFO ignores a hit
    case fifo 2 (first 3) (answered 0 0 0 0 ∷ t1 (1 ∷ 0 ∷ 2 ∷ 0 ∷ []) ∷ [])
    -- C2 CLOCK sets its bit, and leaves the page where it is
    ∷ case clock 2 (first 3) (answered 0 0 0 0 ∷ t1 (1 ∷ 1 ∷ 2 ∷ 0 ∷ []) ∷ [])
    -- C3 LRU moves the page to the tail, bit 0, which is no hand move
    ∷ case lru 2 (first 3) (answered 0 0 0 0 ∷ t1 (2 ∷ 0 ∷ 1 ∷ 0 ∷ []) ∷ [])
    -- C4 FIFO evicts the head and forgets it: no other list has a page then
    ∷ case fifo 2 (first 4) (
    answered 2 1 1 1
    ∷ cleared 0
    ∷ p 0
    ∷ q 0
    ∷ t1 (2 ∷ 0 ∷ 3 ∷ 0 ∷ [])
    ∷ t2 []
    ∷ b1 []
    ∷ b2 []
    ∷ [])
    -- C5 CLOCK sends page 1 to the tail, bit 0, and evicts page 2: two moves
    ∷ case clock 2 (first 4) (
    answered 2 2 1 2
    ∷ cleared 1
    ∷ p 0
    ∷ q 0
    ∷ t1 (1 ∷ 0 ∷ 3 ∷ 0 ∷ [])
    ∷ t2 []
    ∷ b1 []
    ∷ b2 []
    ∷ [])
    -- C6 LRU evicts page 2, too, by one move
    ∷ case lru 2 (first 4) (
    answered 2 2 1 1
    ∷ cleared 0
    ∷ p 0
    ∷ q 0
    ∷ t1 (1 ∷ 0 ∷ 3 ∷ 0 ∷ [])
    ∷ t2 []
    ∷ b1 []
    ∷ b2 []
    ∷ [])
    -- C7 a page that was forgotten is a new one when it comes back
    ∷ case fifo 2 (first 6) (answered 2 2 1 1 ∷ t1 (3 ∷ 0 ∷ 1 ∷ 0 ∷ []) ∷ b1 [] ∷ [])
    -- C8 CLOCK, all bits set: each is cleared, and the first page is evicted after all
    ∷ case clock 2 (1 ∷ 2 ∷ 1 ∷ 2 ∷ 3 ∷ []) (answered 2 1 1 3 ∷ cleared 2 ∷ t1 (2 ∷ 0 ∷ 3 ∷ 0 ∷ []) ∷ [])
    -- C9, C10, C11 one page: the head is evicted, by CLOCK after a move to the tail where it was hit
    ∷ case fifo 1 (1 ∷ 1 ∷ 2 ∷ []) (answered 2 1 1 1 ∷ t1 (2 ∷ 0 ∷ []) ∷ b1 [] ∷ [])
    ∷ case clock 1 (1 ∷ 1 ∷ 2 ∷ []) (answered 2 1 1 2 ∷ t1 (2 ∷ 0 ∷ []) ∷ b1 [] ∷ [])
    ∷ case lru 1 (1 ∷ 1 ∷ 2 ∷ []) (answered 2 1 1 1 ∷ t1 (2 ∷ 0 ∷ []) ∷ b1 [] ∷ [])
    -- C12, C13, C14 one trace, on which each of the three evicts another page
    ∷ case fifo 3 (1 ∷ 2 ∷ 1 ∷ 3 ∷ 4 ∷ 5 ∷ []) (answered 2 2 1 1 ∷ t1 (3 ∷ 0 ∷ 4 ∷ 0 ∷ 5 ∷ 0 ∷ []) ∷ [])
    ∷ case clock 3 (1 ∷ 2 ∷ 1 ∷ 3 ∷ 4 ∷ 5 ∷ []) (answered 2 3 1 1 ∷ t1 (1 ∷ 0 ∷ 4 ∷ 0 ∷ 5 ∷ 0 ∷ []) ∷ [])
    ∷ case lru 3 (1 ∷ 2 ∷ 1 ∷ 3 ∷ 4 ∷ 5 ∷ []) (answered 2 1 1 1 ∷ t1 (3 ∷ 0 ∷ 4 ∷ 0 ∷ 5 ∷ 0 ∷ []) ∷ [])
    -- C15 LRU moves a page from the middle, and the others keep their order
    ∷ case lru 4 (1 ∷ 2 ∷ 3 ∷ 4 ∷ 2 ∷ []) (answered 0 0 0 0 ∷ t1 (1 ∷ 0 ∷ 3 ∷ 0 ∷ 4 ∷ 0 ∷ 2 ∷ 0 ∷ []) ∷ [])
    ∷ []

-- "P1 to P12 are proved about the definitions together, as one statement over a list."
abbrev pub CasesHold : Type 0
CasesHold = every (map holds (p1_to_p12 ++ (looks_right ++ classics))) ≡ true

-- Directories in words. Each breaks the one rule of soundness that is named before it, all but U9 by one step.
abbrev pub unsound : List (List ℕ)
unsound =
    -- U1 a word less than 8 + 4c
    (1 ∷ 2 ∷ 0 ∷ 0 ∷ 0 ∷ 0 ∷ 0 ∷ 0 ∷ 0 ∷ 0 ∷ 0 ∷ 0 ∷ 0 ∷ 0 ∷ 0 ∷ [])
    -- U2 a word more than 8 + 4c
    ∷ (1 ∷ 2 ∷ 0 ∷ 0 ∷ 0 ∷ 0 ∷ 0 ∷ 0 ∷ 0 ∷ 0 ∷ 0 ∷ 0 ∷ 0 ∷ 0 ∷ 0 ∷ 0 ∷ 0 ∷ [])
    -- U3 policy 0
    ∷ (0 ∷ 2 ∷ 0 ∷ 0 ∷ 0 ∷ 0 ∷ 0 ∷ 0 ∷ 0 ∷ 0 ∷ 0 ∷ 0 ∷ 0 ∷ 0 ∷ 0 ∷ 0 ∷ [])
    -- U4 policy 6
    ∷ (6 ∷ 2 ∷ 0 ∷ 0 ∷ 0 ∷ 0 ∷ 0 ∷ 0 ∷ 0 ∷ 0 ∷ 0 ∷ 0 ∷ 0 ∷ 0 ∷ 0 ∷ 0 ∷ [])
    -- U5 c = 0
    ∷ (1 ∷ 0 ∷ 0 ∷ 0 ∷ 0 ∷ 0 ∷ 0 ∷ 0 ∷ [])
    -- U6 c = 1,025
    ∷ (1 ∷ 1025 ∷ replicate 4106 0)
    -- U7 p = c + 1
    ∷ (1 ∷ 2 ∷ 3 ∷ 0 ∷ 1 ∷ 1 ∷ 1 ∷ 1 ∷ 4 ∷ 0 ∷ 1 ∷ 0 ∷ 3 ∷ 0 ∷ 2 ∷ 0 ∷ [])
    -- U8 |T1|+|T2| = c + 1
    ∷ (1 ∷ 2 ∷ 0 ∷ 0 ∷ 2 ∷ 1 ∷ 0 ∷ 0 ∷ 4 ∷ 0 ∷ 3 ∷ 0 ∷ 1 ∷ 0 ∷ 0 ∷ 0 ∷ [])
    -- U9 |T1| = 4,294,967,295, which with |T2| would wrap to 0
    ∷ (2 ∷ 2 ∷ 1 ∷ 2 ∷ 4294967295 ∷ 1 ∷ 1 ∷ 1 ∷ 4 ∷ 0 ∷ 1 ∷ 2 ∷ 3 ∷ 0 ∷ 2 ∷ 2 ∷ [])
    -- U10 |B1|+|B2| = c + 1, for which the words have no room
    ∷ (1 ∷ 2 ∷ 1 ∷ 0 ∷ 1 ∷ 1 ∷ 1 ∷ 2 ∷ 4 ∷ 0 ∷ 1 ∷ 0 ∷ 3 ∷ 0 ∷ 2 ∷ 0 ∷ [])
    -- U11 B1 is not empty while there is room
    ∷ (1 ∷ 2 ∷ 0 ∷ 0 ∷ 1 ∷ 0 ∷ 1 ∷ 0 ∷ 4 ∷ 0 ∷ 3 ∷ 0 ∷ 0 ∷ 0 ∷ 0 ∷ 0 ∷ [])
    -- U12 B2 is not empty while there is room
    ∷ (1 ∷ 2 ∷ 0 ∷ 0 ∷ 1 ∷ 0 ∷ 0 ∷ 1 ∷ 4 ∷ 0 ∷ 3 ∷ 0 ∷ 0 ∷ 0 ∷ 0 ∷ 0 ∷ [])
    -- U13 a page in T1 and in T2
    ∷ (1 ∷ 2 ∷ 1 ∷ 0 ∷ 1 ∷ 1 ∷ 1 ∷ 1 ∷ 4 ∷ 0 ∷ 4 ∷ 0 ∷ 3 ∷ 0 ∷ 2 ∷ 0 ∷ [])
    -- U14 a page in T1 and in B2
    ∷ (1 ∷ 2 ∷ 1 ∷ 0 ∷ 1 ∷ 1 ∷ 1 ∷ 1 ∷ 4 ∷ 0 ∷ 1 ∷ 0 ∷ 3 ∷ 0 ∷ 4 ∷ 0 ∷ [])
    -- U15 flags of 4 in the first entry
    ∷ (1 ∷ 2 ∷ 1 ∷ 0 ∷ 1 ∷ 1 ∷ 1 ∷ 1 ∷ 4 ∷ 4 ∷ 1 ∷ 0 ∷ 3 ∷ 0 ∷ 2 ∷ 0 ∷ [])
    -- U16 flags of 4 in the last entry
    ∷ (1 ∷ 2 ∷ 1 ∷ 0 ∷ 1 ∷ 1 ∷ 1 ∷ 1 ∷ 4 ∷ 0 ∷ 1 ∷ 0 ∷ 3 ∷ 0 ∷ 2 ∷ 4 ∷ [])
    -- U17 a reference bit in B1
    ∷ (1 ∷ 2 ∷ 1 ∷ 0 ∷ 1 ∷ 1 ∷ 1 ∷ 1 ∷ 4 ∷ 0 ∷ 1 ∷ 0 ∷ 3 ∷ 1 ∷ 2 ∷ 0 ∷ [])
    -- U18 a reference bit in B2
    ∷ (1 ∷ 2 ∷ 1 ∷ 0 ∷ 1 ∷ 1 ∷ 1 ∷ 1 ∷ 4 ∷ 0 ∷ 1 ∷ 0 ∷ 3 ∷ 0 ∷ 2 ∷ 1 ∷ [])
    -- U19 the first unused word is 1
    ∷ (1 ∷ 2 ∷ 0 ∷ 0 ∷ 1 ∷ 0 ∷ 0 ∷ 0 ∷ 4 ∷ 0 ∷ 1 ∷ 0 ∷ 0 ∷ 0 ∷ 0 ∷ 0 ∷ [])
    -- U20 the last unused word is 1
    ∷ (1 ∷ 2 ∷ 0 ∷ 0 ∷ 0 ∷ 0 ∷ 0 ∷ 0 ∷ 0 ∷ 0 ∷ 0 ∷ 0 ∷ 0 ∷ 0 ∷ 0 ∷ 1 ∷ [])
    -- U21 CAR, q = 1
    ∷ (1 ∷ 2 ∷ 1 ∷ 1 ∷ 1 ∷ 1 ∷ 1 ∷ 1 ∷ 4 ∷ 0 ∷ 1 ∷ 0 ∷ 3 ∷ 0 ∷ 2 ∷ 0 ∷ [])
    -- U22 CAR, a filter bit in T1
    ∷ (1 ∷ 2 ∷ 1 ∷ 0 ∷ 1 ∷ 1 ∷ 1 ∷ 1 ∷ 4 ∷ 2 ∷ 1 ∷ 0 ∷ 3 ∷ 0 ∷ 2 ∷ 0 ∷ [])
    -- U23 CAR, a filter bit in B2
    ∷ (1 ∷ 2 ∷ 1 ∷ 0 ∷ 1 ∷ 1 ∷ 1 ∷ 1 ∷ 4 ∷ 0 ∷ 1 ∷ 0 ∷ 3 ∷ 0 ∷ 2 ∷ 2 ∷ [])
    -- U24 CAR, |T1|+|B1| = c + 1
    ∷ (1 ∷ 2 ∷ 0 ∷ 0 ∷ 2 ∷ 0 ∷ 1 ∷ 0 ∷ 4 ∷ 0 ∷ 1 ∷ 0 ∷ 3 ∷ 0 ∷ 0 ∷ 0 ∷ [])
    -- U25 CART, q = 2c + 1
    ∷ (2 ∷ 2 ∷ 1 ∷ 5 ∷ 1 ∷ 1 ∷ 1 ∷ 1 ∷ 4 ∷ 0 ∷ 1 ∷ 2 ∷ 3 ∷ 0 ∷ 2 ∷ 2 ∷ [])
    -- U26 CART, an S page in T2
    ∷ (2 ∷ 2 ∷ 1 ∷ 2 ∷ 1 ∷ 1 ∷ 1 ∷ 1 ∷ 4 ∷ 0 ∷ 1 ∷ 0 ∷ 3 ∷ 0 ∷ 2 ∷ 2 ∷ [])
    -- U27 CART, an S page in B2
    ∷ (2 ∷ 2 ∷ 1 ∷ 2 ∷ 1 ∷ 1 ∷ 1 ∷ 1 ∷ 4 ∷ 0 ∷ 1 ∷ 2 ∷ 3 ∷ 0 ∷ 2 ∷ 0 ∷ [])
    -- U28 CART, an L page in B1
    ∷ (2 ∷ 2 ∷ 1 ∷ 2 ∷ 1 ∷ 1 ∷ 1 ∷ 1 ∷ 4 ∷ 0 ∷ 1 ∷ 2 ∷ 3 ∷ 2 ∷ 2 ∷ 2 ∷ [])
    -- U29 CLOCK, p = 1
    ∷ (4 ∷ 2 ∷ 1 ∷ 0 ∷ 2 ∷ 0 ∷ 0 ∷ 0 ∷ 4 ∷ 0 ∷ 1 ∷ 0 ∷ 0 ∷ 0 ∷ 0 ∷ 0 ∷ [])
    -- U30 CLOCK, q = 1
    ∷ (4 ∷ 2 ∷ 0 ∷ 1 ∷ 2 ∷ 0 ∷ 0 ∷ 0 ∷ 4 ∷ 0 ∷ 1 ∷ 0 ∷ 0 ∷ 0 ∷ 0 ∷ 0 ∷ [])
    -- U31 CLOCK, a page in T2
    ∷ (4 ∷ 2 ∷ 0 ∷ 0 ∷ 1 ∷ 1 ∷ 0 ∷ 0 ∷ 4 ∷ 0 ∷ 1 ∷ 0 ∷ 0 ∷ 0 ∷ 0 ∷ 0 ∷ [])
    -- U32 CLOCK, a page in B1
    ∷ (4 ∷ 2 ∷ 0 ∷ 0 ∷ 2 ∷ 0 ∷ 1 ∷ 0 ∷ 4 ∷ 0 ∷ 1 ∷ 0 ∷ 3 ∷ 0 ∷ 0 ∷ 0 ∷ [])
    -- U33 CLOCK, a page in B2
    ∷ (4 ∷ 2 ∷ 0 ∷ 0 ∷ 2 ∷ 0 ∷ 0 ∷ 1 ∷ 4 ∷ 0 ∷ 1 ∷ 0 ∷ 3 ∷ 0 ∷ 0 ∷ 0 ∷ [])
    -- U34 CLOCK, a filter bit
    ∷ (4 ∷ 2 ∷ 0 ∷ 0 ∷ 2 ∷ 0 ∷ 0 ∷ 0 ∷ 4 ∷ 0 ∷ 1 ∷ 2 ∷ 0 ∷ 0 ∷ 0 ∷ 0 ∷ [])
    -- U35 FIFO, a reference bit
    ∷ (3 ∷ 2 ∷ 0 ∷ 0 ∷ 2 ∷ 0 ∷ 0 ∷ 0 ∷ 4 ∷ 0 ∷ 1 ∷ 1 ∷ 0 ∷ 0 ∷ 0 ∷ 0 ∷ [])
    -- U36 LRU, a reference bit
    ∷ (5 ∷ 2 ∷ 0 ∷ 0 ∷ 2 ∷ 0 ∷ 0 ∷ 0 ∷ 4 ∷ 1 ∷ 1 ∷ 0 ∷ 0 ∷ 0 ∷ 0 ∷ 0 ∷ [])
    -- U37 FIFO, p = 1
    ∷ (3 ∷ 2 ∷ 1 ∷ 0 ∷ 2 ∷ 0 ∷ 0 ∷ 0 ∷ 4 ∷ 0 ∷ 1 ∷ 0 ∷ 0 ∷ 0 ∷ 0 ∷ 0 ∷ [])
    ∷ []

-- Directories in words that are sound and stand at the limits named before them.
abbrev pub at_the_limit : List (List ℕ)
at_the_limit =
    -- S1 CAR: p = c, |T1|+|T2| = c, |B1|+|B2| = c, |T1|+|B1| = c, reference bits in T1 and T2
    (1 ∷ 2 ∷ 2 ∷ 0 ∷ 1 ∷ 1 ∷ 1 ∷ 1 ∷ 4 ∷ 1 ∷ 1 ∷ 1 ∷ 3 ∷ 0 ∷ 2 ∷ 0 ∷ [])
    -- S2 CART: p = c, q = 2c, flags of 3 in T1 and T2
    ∷ (2 ∷ 2 ∷ 2 ∷ 4 ∷ 1 ∷ 1 ∷ 1 ∷ 1 ∷ 4 ∷ 3 ∷ 1 ∷ 3 ∷ 3 ∷ 0 ∷ 2 ∷ 2 ∷ [])
    -- S3 CART: |T1|+|B1| = 2c, S pages in T1, pages 0 and 4,294,967,295
    ∷ (2 ∷ 2 ∷ 0 ∷ 0 ∷ 2 ∷ 0 ∷ 2 ∷ 0 ∷ 0 ∷ 0 ∷ 4294967295 ∷ 1 ∷ 3 ∷ 0 ∷ 2 ∷ 0 ∷ [])
    -- S4 CAR: |T2|+|B2| = 2c, page 0
    ∷ (1 ∷ 2 ∷ 0 ∷ 0 ∷ 0 ∷ 2 ∷ 0 ∷ 2 ∷ 4 ∷ 0 ∷ 0 ∷ 0 ∷ 3 ∷ 0 ∷ 2 ∷ 0 ∷ [])
    -- S5 room for one page, both histories empty
    ∷ (1 ∷ 2 ∷ 0 ∷ 0 ∷ 1 ∷ 0 ∷ 0 ∷ 0 ∷ 4 ∷ 1 ∷ 0 ∷ 0 ∷ 0 ∷ 0 ∷ 0 ∷ 0 ∷ [])
    -- S6 c = 1
    ∷ (1 ∷ 1 ∷ 0 ∷ 0 ∷ 0 ∷ 0 ∷ 0 ∷ 0 ∷ 0 ∷ 0 ∷ 0 ∷ 0 ∷ [])
    -- S7 c = 1,024
    ∷ (2 ∷ 1024 ∷ replicate 4102 0)
    -- S8 FIFO: full, page 0
    ∷ (3 ∷ 2 ∷ 0 ∷ 0 ∷ 2 ∷ 0 ∷ 0 ∷ 0 ∷ 4 ∷ 0 ∷ 0 ∷ 0 ∷ 0 ∷ 0 ∷ 0 ∷ 0 ∷ [])
    -- S9 CLOCK: full, all bits set
    ∷ (4 ∷ 2 ∷ 0 ∷ 0 ∷ 2 ∷ 0 ∷ 0 ∷ 0 ∷ 4 ∷ 1 ∷ 1 ∷ 1 ∷ 0 ∷ 0 ∷ 0 ∷ 0 ∷ [])
    -- S10 LRU: full
    ∷ (5 ∷ 2 ∷ 0 ∷ 0 ∷ 2 ∷ 0 ∷ 0 ∷ 0 ∷ 4 ∷ 0 ∷ 1 ∷ 0 ∷ 0 ∷ 0 ∷ 0 ∷ 0 ∷ [])
    ∷ []

abbrev pub not_sound : List ℕ → Bool
not_sound w = if sound w then false else true

-- No directory of the first list is sound; every directory of the second is.
abbrev pub LimitsHold : Type 0
LimitsHold = every (map not_sound unsound ++ map sound at_the_limit) ≡ true
