-- Every promise about the definitions, each beside the sentence that asks for it; behind it, in brackets, the file of
-- crates/laws/proofs that proves it. A directory is meant by its value; WordsAreDirectories joins values and words.
use Rattle.std.specs.Prelude.{◌≡◌, true, false, ◌||◌, ◌⊎◌, List, ◌∷◌, ◌++◌, map, reverse, ℕ, ◌+◌, ◌*◌, ◌≤◌, ◌<◌, take}
use Rattle.terms.specs.Choice.{∣◌∣, numbers_from}
use Rattle.terms.specs.Limits.{known_size}
use Rattle.terms.specs.Policies.{car, cart, fifo, clock, lru, known_policy}
use Rattle.figures.specs.Entry.{Entry, bits, short, long, total, has}
use Rattle.figures.specs.Directory.{Directory, fresh, Name, B1, B2, list_of, with_list}
use Rattle.figures.specs.Directory.{cached, remembered, listed, in_cache, t1_at_target}
use Rattle.figures.specs.Words.{encode, decode}
use Rattle.figures.specs.Hand.{Hand, begin, Ends, Leads}
use Rattle.figures.specs.Car as Car
use Rattle.figures.specs.Cart as Cart
use Rattle.figures.specs.Classics as Classics
use Rattle.figures.specs.Policy.{Policy, policy_of}
use Rattle.figures.specs.Sound.{sound}
use Rattle.figures.specs.Request.{request}
use Rattle.figures.specs.Run.{run}
use Rattle.figures.specs.Recency.{recent, lru_holding}

abbrev pub Sound : Directory → Type 0
Sound d = sound (encode d) ≡ true

-- The row that a directory names.
abbrev pub row_of : Directory → Policy
row_of d = policy_of d.policy

-- Every known number is that of its row. [Lawful]
abbrev pub RowsNumbered : Type 0
RowsNumbered = (n : ℕ) → known_policy n ≡ true → (policy_of n).number ≡ n

-- THE WORDS

-- Words that are sound hold one directory, and a directory has one run of words. [Encoding]
pub record WordsAreDirectories : Type 0 where
  pub decode_encode : (d : Directory) → decode (encode d) ≡ d
  pub encode_decode : (w : List ℕ) → sound w ≡ true → encode (decode w) ≡ w
  pub one_to_one : (d d' : Directory) → encode d ≡ encode d' → d ≡ d'

-- "exactly 8 + 4c of them" [Encoding]
abbrev pub WordsFit : Type 0
WordsFit = (d : Directory) → cached d + remembered d ≤ 2 * d.c → ∣ encode d ∣ ≡ 8 + 4 * d.c

-- SOUNDNESS

-- A fresh directory is sound. [Kept]
abbrev pub FreshIsSound : Type 0
FreshIsSound = (policy c : ℕ) → known_policy policy ≡ true → known_size c ≡ true → Sound (fresh policy c)

-- "Every accepted request leaves a sound directory in which the requested page is in T1 or T2." [Kept]
pub record Kept (x : ℕ) (d : Directory) : Type 0 where
  pub sound_again : Sound (request x d).dir
  pub page_cached : has x (request x d).dir.t1 || has x (request x d).dir.t2 ≡ true
  pub same_policy : (request x d).dir.policy ≡ d.policy
  pub same_size : (request x d).dir.c ≡ d.c

abbrev pub RequestKeeps : Type 0
RequestKeeps = (x : ℕ) (d : Directory) → Sound d → Kept x d

-- THE EVICT PART, from every sound directory that is full

abbrev pub WhenFull : (Directory → Type 0) → Type 0
WhenFull P = (d : Directory) → Sound d → cached d ≡ d.c → P d

-- The same of the directories of one policy.
abbrev pub WhenFullUnder : ℕ → (Directory → Type 0) → Type 0
WhenFullUnder n P = WhenFull (λ d. d.policy ≡ n → P d)

-- "No budget may decide where the defined evict part ends: .. from every sound directory the published stop comes
-- first." The repeat that knows no budget ends where the definition does. CAR's and CLOCK's ask for no head that is not
-- there: `Ends` has no rule for that. CART's passes also stop at an empty list; that the demotion has a head is in
-- EvictsOne. FIFO and LRU repeat nothing. [Stops]
abbrev pub CarStops : Directory → Type 0
CarStops d = Ends Car.choose (begin 0 0 d) (Car.evict d)

pub record CartStops (d : Directory) : Type 0 where
  pub first : Ends Cart.first_look (Cart.counted d) (Cart.first_pass (Cart.counted d))
  pub second :
      Ends Cart.second_look (Cart.first_pass (Cart.counted d)) (Cart.second_pass (Cart.first_pass (Cart.counted d)))

abbrev pub ClockStops : Directory → Type 0
ClockStops d = Ends Classics.clock_look (begin 0 0 d) (Classics.clock_evict d)

pub record PublishedStopComesFirst : Type 0 where
  pub of_car : WhenFullUnder car CarStops
  pub of_cart : WhenFullUnder cart CartStops
  pub of_clock : WhenFullUnder clock ClockStops

-- "once T2 is chosen, T1 is not chosen again in that request": whatever hand CAR's looks lead to. [Car]
abbrev pub T2StaysChosen : Type 0
T2StaysChosen = (a z : Hand) → Leads Car.choose a z → t1_at_target a.dir ≡ false → t1_at_target z.dir ≡ false

-- What an entry counts for by its page alone.
abbrev pub by_page : (ℕ → ℕ) → Entry → ℕ
by_page count e = count e.page

-- One page goes from T1 or T2, of which the chosen one is not empty, and no reference bit is set in a history then; it
-- is the page that the answer names: by any count of pages, T1 and T2 count that one page less;
-- "bits set before equal bits set after plus bits cleared" (request 10 of 02). [Stops]
pub record Evicts (d : Directory) (h : Hand) : Type 0 where
  pub from_t1_or_t2 : (1 ≤ h.list) × (h.list ≤ 2)
  pub one_less : cached h.dir + 1 ≡ cached d
  pub page_leaves : (count : ℕ → ℕ) → in_cache (by_page count) h.dir + count h.page ≡ in_cache (by_page count) d
  pub demoted_clear : total bits h.dir.b1 + total bits h.dir.b2 ≡ 0
  pub bits_accounted : in_cache bits d ≡ in_cache bits h.dir + h.cleared

abbrev pub EvictsOne : Type 0
EvictsOne = WhenFull (λ d. Evicts d ((row_of d).evict d))

-- CAR and CART remember that page: a history has one more. [Stops]
pub record EvictedIsRemembered : Type 0 where
  pub of_car : WhenFullUnder car (λ d. remembered (Car.evict d).dir ≡ remembered d + 1)
  pub of_cart : WhenFullUnder cart (λ d. remembered (Cart.evict d).dir ≡ remembered d + 1)

-- "The head is evicted and forgotten": under FIFO, CLOCK and LRU no list has the page then. [Stops]
abbrev pub Forgotten : Hand → Type 0
Forgotten h = has h.page (listed h.dir) ≡ false

pub record EvictedIsForgotten : Type 0 where
  pub of_fifo : WhenFullUnder fifo (λ d. Forgotten (Classics.evict d))
  pub of_clock : WhenFullUnder clock (λ d. Forgotten (Classics.clock_evict d))
  pub of_lru : WhenFullUnder lru (λ d. Forgotten (Classics.evict d))

-- What the three share: where no reference bit is set, CLOCK's evict part is FIFO's and LRU's. [Classics]
abbrev pub ClearClockEvicts : Type 0
ClearClockEvicts = (d : Directory) → in_cache bits d ≡ 0 → Classics.clock_evict d ≡ Classics.evict d

-- "n_S and n_L count the S and L pages in T1 and T2", also as Figure 3 has kept them when the evict part is over.
-- [Stops]
abbrev pub CountsKept : Type 0
CountsKept =
    WhenFullUnder cart (λ d.
    let h = Cart.evict d in
    (h.n_s ≡ in_cache short h.dir) × (h.n_l ≡ in_cache long h.dir))

-- Trim takes no head of an empty list: where its rule drops a head, that head was there. FIFO, CLOCK and LRU trim
-- nothing. [Stops]

-- Dropping the head of list i makes d' of d: the head was there, the rest of the list stays, and so does all else.
pub record HeadDropped (i : Name) (d d' : Directory) : Type 0 where
  pub head : Entry
  pub was_there : list_of i d ≡ head ∷ list_of i d'
  pub else_same : d' ≡ with_list i (list_of i d') d

-- "if |T1|+|B1| = c drop B1's head; else if all four lengths sum to 2c drop B2's head"
pub record CarTrimHasHead (d : Directory) : Type 0 where
  pub drops-B1 : ∣ d.t1 ∣ + ∣ d.b1 ∣ ≡ d.c → HeadDropped B1 d (Car.trim d)
  pub drops-B2 :
      ¬ (∣ d.t1 ∣ + ∣ d.b1 ∣ ≡ d.c) → cached d + remembered d ≡ 2 * d.c → HeadDropped B2 d (Car.trim d)

-- "(.. |B1|+|B2| = c+1): if |B1| > q or B2 is empty drop B1's head, else B2's head"
pub record CartTrimHasHead (d : Directory) : Type 0 where
  pub drops-B1 : remembered d ≡ d.c + 1 → (d.q < ∣ d.b1 ∣) ⊎ (∣ d.b2 ∣ ≡ 0) → HeadDropped B1 d (Cart.trim d)
  pub drops-B2 : remembered d ≡ d.c + 1 → ¬ ((d.q < ∣ d.b1 ∣) ⊎ (∣ d.b2 ∣ ≡ 0)) → HeadDropped B2 d (Cart.trim d)

pub record TrimHasHead : Type 0 where
  pub of_car : WhenFullUnder car (λ d. CarTrimHasHead (Car.evict d).dir)
  pub of_cart : WhenFullUnder cart (λ d. CartTrimHasHead (Cart.evict d).dir)

-- HAND MOVES

-- "For kinds 0 and 1 the other three are 0." [Moves]
abbrev pub StillRequests : Type 0
StillRequests =
    (x : ℕ) (d : Directory) → (request x d).kind ≤ 1
    → ((request x d).page ≡ 0) × ((request x d).list ≡ 0) × ((request x d).moves ≡ 0)

-- "for an evicting CAR request one more than the reference bits cleared": so it is under every policy but CART. [Moves]
abbrev pub MovesAreBitsCleared : Type 0
MovesAreBitsCleared =
    (x : ℕ) (d : Directory) → Sound d → ¬ (d.policy ≡ cart) → 2 ≤ (request x d).kind
    → (request x d).moves ≡ (request x d).cleared + 1

-- "no CAR request needs more than c + 1 hand moves, no CART request more than 2c + 1"; "The single-request bound is 1,
-- c + 1 and 1" for FIFO, CLOCK and LRU: from every sound directory. [Moves]
abbrev pub most_moves : Directory → ℕ
most_moves d = (row_of d).most_moves d.c

abbrev pub RequestMovesAtMost : Type 0
RequestMovesAtMost = (x : ℕ) (d : Directory) → Sound d → (request x d).moves ≤ most_moves d

-- "over the whole sequence at most one, respectively two, a request"; "none needs more than one a request" for FIFO,
-- CLOCK and LRU: from every sound directory, with what its set bits, and for CART its L pages in T1, may still cost.
-- [Moves]
abbrev pub moves_each : Directory → ℕ
moves_each d = (row_of d).moves_each

abbrev pub owed : Directory → ℕ
owed d = (row_of d).owed d

abbrev pub RunMovesAtMost : Type 0
RunMovesAtMost =
    (trace : List ℕ) (d : Directory) → Sound d → (run trace d).tally.moves ≤ moves_each d * ∣ trace ∣ + owed d

-- DEMAND 3: from an empty directory of c pages, any page sequence

abbrev pub FromFresh : (ℕ → Type 0) → Type 0
FromFresh P = (c : ℕ) → 1 ≤ c → c ≤ 1024 → P c

abbrev pub last_moves : ℕ → ℕ → List ℕ → ℕ → ℕ
last_moves policy c trace x = (request x (run trace (fresh policy c)).dir).moves

-- "no CAR request needs more than c + 1 hand moves, no CART request more than 2c + 1"; "The single-request bound is 1,
-- c + 1 and 1" [Moves]
abbrev pub RequestAtMost : ℕ → (ℕ → ℕ) → Type 0
RequestAtMost policy most = FromFresh (λ c. (trace : List ℕ) (x : ℕ) → last_moves policy c trace x ≤ most c)

pub record RequestsAtMost : Type 0 where
  pub of_car : RequestAtMost car (λ c. c + 1)
  pub of_cart : RequestAtMost cart (λ c. 2 * c + 1)
  pub of_fifo : RequestAtMost fifo (λ c. 1)
  pub of_clock : RequestAtMost clock (λ c. c + 1)
  pub of_lru : RequestAtMost lru (λ c. 1)

-- "over the whole sequence at most one, respectively two, a request"; "over a run from a fresh directory none needs
-- more than one a request" [Moves]
abbrev pub RunAtMost : ℕ → ℕ → Type 0
RunAtMost policy each = FromFresh (λ c. (trace : List ℕ) → (run trace (fresh policy c)).tally.moves ≤ each * ∣ trace ∣)

pub record RunsAtMost : Type 0 where
  pub of_car : RunAtMost car 1
  pub of_cart : RunAtMost cart 2
  pub of_fifo : RunAtMost fifo 1
  pub of_clock : RunAtMost clock 1
  pub of_lru : RunAtMost lru 1

-- "for every c a sequence reaches each single-request bound": the pages 1 to c, where hits set bits the same again,
-- then a new one. [Reached]
abbrev pub all_twice : ℕ → List ℕ
all_twice c = numbers_from 1 c ++ numbers_from 1 c

abbrev pub Reaches : ℕ → (ℕ → List ℕ) → (ℕ → ℕ) → Type 0
Reaches policy trace most = FromFresh (λ c. last_moves policy c (trace c) (c + 1) ≡ most c)

pub record BoundsReached : Type 0 where
  pub by_car : Reaches car all_twice (λ c. c + 1)
  pub by_cart : Reaches cart all_twice (λ c. 2 * c + 1)
  pub by_fifo : Reaches fifo (numbers_from 1) (λ c. 1)
  pub by_clock : Reaches clock all_twice (λ c. c + 1)
  pub by_lru : Reaches lru (numbers_from 1) (λ c. 1)

-- LRU

-- After an LRU run from a fresh directory of c pages, T1 from tail to head is the last c different pages of the trace,
-- or all of them where they are fewer; and all else is as it was. [Recency]
pub record HoldsRecent (c : ℕ) (trace : List ℕ) : Type 0 where
  pub tail_to_head : map (λ e. e.page) (reverse (run trace (fresh lru c)).dir.t1) ≡ take c (recent (reverse trace))
  pub whole : (run trace (fresh lru c)).dir ≡ lru_holding c (recent (reverse trace))

abbrev pub LruHoldsRecent : Type 0
LruHoldsRecent = FromFresh (λ c. (trace : List ℕ) → HoldsRecent c trace)
