-- CART, Figure 3 of Bansal and Modha: evict, its replace(), lines 23 to 40; trim, lines 6 to 10; place, lines 14 to 20.
-- n_S and n_L are counted when a request begins and then kept as the figure keeps them.
use Rattle.std.specs.Prelude.{Bool, ◌||◌, List, [], ◌∷◌, ◌++◌, ℕ, suc, ◌+◌, ◌-◌, ◌*◌, ◌/◌, max, min, get_or, leb, ltb, eqb, if◌then◌else◌}
use Rattle.terms.specs.Choice.{∣◌∣, every}
use Rattle.figures.specs.Entry.{Entry, Filter, S, L, new_long, cleared, made_long}
use Rattle.figures.specs.Entry.{bits, short, long, total, none_of, without, drop_head}
use Rattle.figures.specs.Directory.{Directory, unit, T1, T2, B1, B2, with_list, with_p, with_q, to_tail}
use Rattle.figures.specs.Directory.{remembered, in_cache, t1_at_target}
use Rattle.figures.specs.Words.{decode, size}
use Rattle.figures.specs.Hand.{Hand, begin, with_dir, with_counts, turn, demote, Look, again, stop, repeat}

-- "for CART also q ≤ 2c, every entry of T2 and B2 is L, every entry of B1 is S"
unfoldable pub cart_sound : List ℕ → Bool
cart_sound w =
    every (
    leb (get_or w 3 0) (2 * size w)
    ∷ none_of short ((decode w).t2 ++ (decode w).b2)
    ∷ none_of long (decode w).b1
    ∷ [])

-- "Raise q", lines 20 and 25. n_S counts pages of T1 and T2, so the difference is not below zero.
abbrev pub raise : ℕ → Directory → Directory
raise n_s d =
    if leb d.c (∣ d.t2 ∣ + ∣ d.b2 ∣ + ∣ d.t1 ∣ - n_s) then with_q (min (d.q + 1) (2 * d.c - ∣ d.t1 ∣)) d
    else d

-- Line 33. Where q is 0 its difference is below zero and the other, which is not, is the maximum: 0 serves as well.
abbrev pub lower : Directory → Directory
lower d = with_q (max (d.q - 1) (d.c - ∣ d.t1 ∣)) d

-- Lines 23 to 26: while T2's head has its bit set, it becomes T1's tail.
abbrev pub look_t2 : List Entry → Hand → Look
look_t2 [] h = stop h
look_t2 (e ∷ es) h =
    let h' = turn T2 T1 cleared e es h in
    if e.bit then again (with_dir (raise h'.n_s h'.dir) h') else stop h

-- Lines 28 to 30: T1's head, its bit set, becomes T1's tail; where it is S and the test holds it becomes L.
abbrev pub becomes_long : Directory → Bool
becomes_long d = leb (min (d.p + unit) (unit * ∣ d.b1 ∣)) (unit * ∣ d.t1 ∣)

abbrev pub pass_t1 : Filter → Entry → List Entry → Hand → Hand
pass_t1 S e es h =
    let h' = turn T1 T1 cleared e es h in
    let h'' = turn T1 T1 (λ e. made_long (cleared e)) e es h in
    if becomes_long h'.dir then with_counts (h.n_s - 1) (h.n_l + 1) h'' else h'
pass_t1 L e es h = turn T1 T1 cleared e es h

-- Lines 31 to 33: T1's head, its bit clear and its filter L, becomes T2's tail; then q. |T1| is read after the move.
abbrev pub settle : Entry → List Entry → Hand → Hand
settle e es h = let h' = turn T1 T2 cleared e es h in with_dir (lower h'.dir) h'

abbrev pub if_long : Filter → Look → Look → Look
if_long S a b = b
if_long L a b = a

-- Lines 27 to 35: while T1 has a head that is L or has its bit set.
abbrev pub look_t1 : List Entry → Hand → Look
look_t1 [] h = stop h
look_t1 (e ∷ es) h =
    if e.bit then again (pass_t1 e.filter e es h)
    else if_long e.filter (again (settle e es h)) (stop h)

-- What an entry of T1 can still cost the hand before a page is demoted: a move to T1's tail and one to T2's.
abbrev pub cost : Entry → ℕ
cost e = if e.bit then 2 else long e

-- The same of T1 and T2: a set bit of T2 costs a move to T1 and one back.
abbrev pub owing : Directory → ℕ
owing d = total cost d.t1 + 2 * total bits d.t2

abbrev pub first_look : Hand → Look
first_look h = look_t2 h.dir.t2 h

abbrev pub second_look : Hand → Look
second_look h = look_t1 h.dir.t1 h

unfoldable pub first_pass : Hand → Hand
first_pass h = repeat first_look (suc (total bits h.dir.t2)) h

unfoldable pub second_pass : Hand → Hand
second_pass h = repeat second_look (suc (total cost h.dir.t1)) h

-- Lines 36 to 40. The chosen list has a head after the passes: from every sound, full directory one page leaves T1 or
-- T2 (Demands, EvictsOne).
abbrev pub demote_t1 : List Entry → Hand → Hand
demote_t1 [] h = h
demote_t1 (e ∷ es) h = with_counts (h.n_s - 1) h.n_l (demote T1 B1 e es h)

abbrev pub demote_t2 : List Entry → Hand → Hand
demote_t2 [] h = h
demote_t2 (e ∷ es) h = with_counts h.n_s (h.n_l - 1) (demote T2 B2 e es h)

abbrev pub demotion : Hand → Hand
demotion h = if t1_at_target h.dir then demote_t1 h.dir.t1 h else demote_t2 h.dir.t2 h

-- "n_S and n_L count the S and L pages in T1 and T2."
abbrev pub counted : Directory → Hand
counted d = begin (in_cache short d) (in_cache long d) d

-- Lines 23 to 40.
unfoldable pub evict : Directory → Hand
evict d = demotion (second_pass (first_pass (counted d)))

-- Lines 6 to 10, for a page in neither history.
unfoldable pub trim : Directory → Directory
trim d =
    let oldest = if ltb d.q ∣ d.b1 ∣ || eqb ∣ d.b2 ∣ 0 then with_list B1 (drop_head d.b1) d
    else with_list B2 (drop_head d.b2) d in
    if eqb (remembered d) (d.c + 1) then oldest else d

-- Lines 15 and 16.
unfoldable pub place_b1 : ℕ → Hand → Directory
place_b1 x h =
    let d = h.dir in
    let p = min (d.p + max unit (unit * h.n_s / ∣ d.b1 ∣)) (unit * d.c) in
    to_tail T1 (new_long x) (with_list B1 (without x d.b1) (with_p p d))

-- Lines 18 and 19; line 20 raises q after the move.
abbrev pub back_from_b2 : ℕ → Hand → Directory
back_from_b2 x h =
    let d = h.dir in
    let p = d.p - max unit (unit * h.n_l / ∣ d.b2 ∣) in
    to_tail T1 (new_long x) (with_list B2 (without x d.b2) (with_p p d))

unfoldable pub place_b2 : ℕ → Hand → Directory
place_b2 x h = raise h.n_s (back_from_b2 x h)
