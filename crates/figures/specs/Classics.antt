-- FIFO, CLOCK and LRU, request 1 of 02: T1 alone, a queue whose head is evicted and forgotten.
-- They differ in what a hit does, and CLOCK sends a head whose bit is set to the tail first.
use Rattle.std.specs.Prelude.{Bool, List, [], ◌∷◌, ◌++◌, ℕ, suc, ◌+◌, get_or, eqb, if◌then◌else◌}
use Rattle.terms.specs.Choice.{every}
use Rattle.figures.specs.Entry.{Entry, cleared, bits, long, none_of, without, only}
use Rattle.figures.specs.Directory.{Directory, T1, with_list, place_new, in_cache}
use Rattle.figures.specs.Words.{decode, n_t2, n_b1, n_b2}
use Rattle.figures.specs.Hand.{Hand, begin, turn, forget, Look, again, stop, none, repeat}

-- "All use T1 alone; p, q and the other lists are empty or zero, filter bits clear."
unfoldable pub alone_sound : List ℕ → Bool
alone_sound w =
    every (
    eqb (get_or w 2 0) 0
    ∷ eqb (get_or w 3 0) 0
    ∷ eqb (n_t2 w + (n_b1 w + n_b2 w)) 0
    ∷ none_of long (decode w).t1
    ∷ [])

-- "FIFO's and LRU's bits stay 0."
unfoldable pub clear_sound : List ℕ → Bool
clear_sound w = every (alone_sound w ∷ none_of bits (decode w).t1 ∷ [])

-- "FIFO ignores hits."
unfoldable pub ignore : ℕ → Directory → Directory
ignore x d = d

-- "LRU moves a hit page to the tail." It is no hand move: it stands outside the evict part.
unfoldable pub renew : ℕ → Directory → Directory
renew x d = with_list T1 (without x d.t1 ++ only x d.t1) d

-- "The head is evicted and forgotten, which is one hand move": FIFO and LRU. From every sound, full directory there is
-- a head (Demands, EvictsOne).
abbrev pub forget_head : List Entry → Hand → Hand
forget_head [] h = h
forget_head (e ∷ es) h = forget T1 e es h

unfoldable pub evict : Directory → Hand
evict d = forget_head d.t1 (begin 0 0 d)

-- "CLOCK .. sends a head with bit 1 to the tail, bit 0": the look at T1's head.
abbrev pub look : List Entry → Hand → Look
look [] h = none
look (e ∷ es) h = if e.bit then again (turn T1 T1 cleared e es h) else stop (forget T1 e es h)

abbrev pub clock_look : Hand → Look
clock_look h = look h.dir.t1 h

unfoldable pub clock_evict : Directory → Hand
clock_evict d = repeat clock_look (suc (in_cache bits d)) (begin 0 0 d)

-- There is no history to trim, and none that a page could come back from: a page that is not in T1 is new.
unfoldable pub trim : Directory → Directory
trim d = d

unfoldable pub place : ℕ → Hand → Directory
place x h = place_new x h.dir
