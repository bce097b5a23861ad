-- CAR, Figure 2 of Bansal and Modha: evict, its replace(), lines 22 to 39; trim, lines 6 to 10; place, lines 14 to 19.
-- Sizes are those at the moment a rule is read; quotients are whole, and the page itself still counts in them.
use Rattle.std.specs.Prelude.{Bool, List, [], ◌∷◌, ℕ, suc, ◌+◌, ◌-◌, ◌*◌, ◌/◌, max, min, get_or, leb, eqb, if◌then◌else◌}
use Rattle.terms.specs.Choice.{∣◌∣, every}
use Rattle.figures.specs.Entry.{Entry, new_short, cleared, bits, long, none_of, without, drop_head}
use Rattle.figures.specs.Directory.{Directory, unit, Name, T1, T2, B1, B2, with_list, with_p, to_tail}
use Rattle.figures.specs.Directory.{cached, remembered, listed, in_cache, t1_at_target}
use Rattle.figures.specs.Words.{decode, size, n_t1, n_b1}
use Rattle.figures.specs.Hand.{Hand, begin, turn, demote, Look, again, stop, none, repeat}

-- "for CAR also q = 0, no filter bit, |T1|+|B1| ≤ c"
unfoldable pub car_sound : List ℕ → Bool
car_sound w =
    every (
    eqb (get_or w 3 0) 0
    ∷ none_of long (listed (decode w))
    ∷ leb (n_t1 w + n_b1 w) (size w)
    ∷ [])

-- The look at the head of clock i with history b: lines 25 to 30 at T1, lines 32 to 37 at T2.
abbrev pub look : Name → Name → List Entry → Hand → Look
look i b [] h = none
look i b (e ∷ es) h = if e.bit then again (turn i T2 cleared e es h) else stop (demote i b e es h)

-- Line 24, the choice of a clock, which leads to a look.
abbrev pub choose : Hand → Look
choose h = if t1_at_target h.dir then look T1 B1 h.dir.t1 h else look T2 B2 h.dir.t2 h

-- Lines 22 to 39. CAR keeps no n_S and n_L.
unfoldable pub evict : Directory → Hand
evict d = repeat choose (suc (in_cache bits d)) (begin 0 0 d)

-- Lines 6 to 10, for a page in neither history.
unfoldable pub trim : Directory → Directory
trim d =
    if eqb (∣ d.t1 ∣ + ∣ d.b1 ∣) d.c then with_list B1 (drop_head d.b1) d
    else if eqb (cached d + remembered d) (2 * d.c) then with_list B2 (drop_head d.b2) d
    else d

-- Lines 15 and 16.
unfoldable pub place_b1 : ℕ → Hand → Directory
place_b1 x h =
    let d = h.dir in
    let p = min (d.p + max unit (unit * ∣ d.b2 ∣ / ∣ d.b1 ∣)) (unit * d.c) in
    to_tail T2 (new_short x) (with_list B1 (without x d.b1) (with_p p d))

-- Lines 18 and 19. The difference on ℕ is 0 where it would fall below, as the figure's maximum with 0 has it.
unfoldable pub place_b2 : ℕ → Hand → Directory
place_b2 x h =
    let d = h.dir in
    let p = d.p - max unit (unit * ∣ d.b1 ∣ / ∣ d.b2 ∣) in
    to_tail T2 (new_short x) (with_list B2 (without x d.b2) (with_p p d))
