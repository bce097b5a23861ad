-- What each leaf of lists.rt leaves in the words is the directory that its contract names.
-- Whichever the lists are: the cases over their numbers are in Laid.
use Rattle.std.specs.Prelude.{if◌then◌else◌}
use mathlib.Core.Path.{◌≡◌, refl, sym, ap, ◌∙◌}
use mathlib.Core.Bool.{Bool, true, false}
use mathlib.Core.List.{List, [], ◌∷◌, ◌++◌, append_assoc}
use Prim.Native.Nat.{ℕ, ◌+◌, ◌-◌, ◌*◌, ◌≤◌, ◌<◌}
use native.Mathlib.Nat.{add-zero}
use native.Mathlib.Omega.{arith}
use lib.ListN.{length, get_or, set, take, drop, length-append, length-drop, take-append-drop}
use lib.Seq.{length-take-le, set-set, set_comm, set-get_or}
use Rattle.terms.specs.Choice.{∣◌∣}
use Rattle.figures.specs.Entry.{Entry, new_short, cleared, marked, has, mark, without, drop_head}
use Rattle.figures.specs.Directory.{Directory, T1, T2, list_of, with_list, to_tail, hit, place_new}
use Rattle.figures.specs.Directory.{cached, remembered, listed}
use Rattle.figures.specs.Words.{flags}
use Rattle.laws.proofs.Lists.{length_tail, length_marked, length_head_dropped, length_without}
use Rattle.engine.specs.Heads.{front_of, head_to}
use Rattle.engine.proofs.Heads.{some_front}
use Rattle.entries.specs.Holds.{Holds}
use Rattle.entries.specs.Flags.{Becomes}
use Rattle.entries.specs.Stretches.{name_of, start_of, index}
use Rattle.entries.specs.Leaves.{ToEnd, PutIn, TakenOut}
use Rattle.entries.proofs.Laid.{heads, length_listed, insert, length_insert, listed_around, listed_tail}
use Rattle.entries.proofs.Laid.{place, start_of_place, places_in_order, places_within, place_next}
use Rattle.entries.proofs.Laid.{place_behind, place_before, heads_with, list_with, size_with}
use Rattle.entries.proofs.Laid.{length_in_heads, length_of_list, length_of_other}
use Rattle.entries.proofs.Indexes.{index_has, Around, around, mark_append}
use Rattle.entries.proofs.Moving.{LaidBehind, moved_on, moved_back, added, dropped, flags_at, reflagged}
use Rattle.entries.proofs.Moving.{Parts, parts, no_length_set, one_length_set, two_lengths_set}

-- The head of list i, as e', at the tail of list j.
module _ {i j : ℕ} (d : Directory) {e : Entry} (e' : Entry) {es : List Entry} {w L : List ℕ} {v : ℕ}
    (low : i ≤ 1) (order : i ≤ j) (high : j ≤ 3)
    (is : Holds d w) (front : list_of (name_of i) d ≡ e ∷ es) (page : e'.page ≡ e.page) (new : v ≡ flags e')
    {s z : ℕ} (start : s ≡ start_of i w) (end : z ≡ start_of (j + 1) w) (does : ToEnd s z v w L) where
  abbrev without_head : Directory
  without_head = with_list (name_of i) es d

  abbrev with_tail : Directory
  with_tail = to_tail (name_of j) e' without_head

  length_list : ∣ list_of (name_of i) d ∣ ≡ ∣ es ∣ + 1
  length_list = ap ∣◌∣ front ∙ omega arith

  from : listed d ≡ insert (place i d) e (listed without_head)
  from = listed_around i e [] es d (omega arith) front ∙ rw add-zero

  to : listed with_tail ≡ insert (place (j + 1) without_head) e' (listed without_head)
  to = listed_tail j e' without_head high

  one_out : ∣ listed d ∣ ≡ ∣ listed without_head ∣ + 1
  one_out = ap ∣◌∣ from ∙ length_insert (place i d) e (listed without_head)

  apart : place (j + 1) d ≡ place (j + 1) without_head + 1
  apart = omega (arith, place_behind i j es d low order high, length_list)

  cut : Parts (listed without_head) (place i d) (place (j + 1) without_head)
  cut =
      let later = places_in_order (i + 1) (j + 1) d (omega arith) in
      let next = place_next i d (omega arith) in
      parts (listed without_head) (place i d) (place (j + 1) without_head)
      (omega (arith, apart, length_list)) (omega (arith, apart, one_out, places_within (j + 1) d))

  turned : LaidBehind d with_tail L
  turned =
      let from-i = start_of_place i d w is in
      let to_j = start_of_place (j + 1) d w is in
      let a : s ≡ 8 + 2 * ∣ cut.first ∣ = omega (arith, cut) in
      let b : z ≡ s + 2 * ∣ cut.middle ∣ + 2 = omega (arith, apart, cut) in
      moved_on d with_tail cut.first cut.middle cut.last e e' w L s z v is
      (size_with j _ without_head ∙ size_with i es d) a b e.page page new
      (from ∙ cut.in_front e) (to ∙ cut.behind e') refl does

  lengths : heads with_tail ≡ set (set (heads d) (4 + i) ∣ es ∣) (4 + j) (∣ list_of (name_of j) without_head ∣ + 1)
  lengths = heads_with j _ without_head high ∙ rw (length_tail, heads_with i es d (omega arith))

  pub head_to_other_tail : i < j
      → Holds with_tail (set (set L (4 + i) (get_or w (4 + i) 0 - 1)) (4 + j) (get_or w (4 + j) 0 + 1))
  head_to_other_tail h =
      let n : get_or w (4 + i) 0 - 1 ≡ ∣ es ∣ = omega (arith, length_of_list i d w is (omega arith), length_list) in
      let same = length_of_other i j es d (omega arith) high (λ e. omega arith) in
      let m : get_or w (4 + j) 0 + 1 ≡ ∣ list_of (name_of j) without_head ∣ + 1 =
      omega (arith, length_of_list j d w is high) in
      two_lengths_set d with_tail L turned i j _ _ (omega arith) high (lengths ∙ rw (n, m))

  pub head_to_own_tail : j ≤ i → Holds with_tail L
  head_to_own_tail h =
      let own : j ≡ i = omega arith in
      let old = get_or (heads d) (4 + i) 0 in
      let n : ∣ list_of (name_of j) without_head ∣ + 1 ≡ old =
      ap (λ (k : ℕ). ∣ list_of (name_of k) without_head ∣ + 1) own
      ∙ ap (λ (l : List Entry). ∣ l ∣ + 1) (list_with i es d)
      ∙ sym length_list
      ∙ sym (length_in_heads i d (omega arith)) in
      let back : set (set (heads d) (4 + i) ∣ es ∣) (4 + i) old ≡ heads d =
      set-set (heads d) (4 + i) ∣ es ∣ old ∙ set-get_or (heads d) (4 + i) 0 in
      no_length_set d with_tail L turned (lengths ∙ rw (n, own) back)

-- The first entry for page x of list b, as e', at the tail of list t.
module _ {t b k : ℕ} (d : Directory) (e' : Entry) {w L : List ℕ} {x v : ℕ} (low : t ≤ 1) (late : 2 ≤ b) (high : b ≤ 3)
    (is : Holds d w) (within : k < get_or w (4 + b) 0) (here : k ≡ index x (list_of (name_of b) d))
    (page : e'.page ≡ x) (new : v ≡ flags e')
    {s z : ℕ} (start : s ≡ start_of (t + 1) w) (end : z ≡ start_of b w + 2 * k + 2) (does : PutIn s z x v w L) where
  abbrev history : List Entry
  history = list_of (name_of b) d

  abbrev without_page : Directory
  without_page = with_list (name_of b) (without x history) d

  abbrev come_back : Directory
  come_back = to_tail (name_of t) e' without_page

  length_history : get_or w (4 + b) 0 ≡ ∣ history ∣
  length_history = length_of_list b d w is high

  found : Around x history
  found = around x history (omega (arith, length_history))

  from_history : listed d ≡ insert (place b d + k) found.it (listed without_page)
  from_history =
      listed_around b found.it found.ahead found.behind d high found.whole
      ∙ rw (← found.left, found.length_ahead, ← here)

  to-tail : listed come_back ≡ insert (place (t + 1) d) e' (listed without_page)
  to-tail = listed_tail t e' without_page (omega arith) ∙ rw (place_before t b (without x history) d low late)

  one_less : ∣ history ∣ ≡ ∣ without x history ∣ + 1
  one_less = length_without x history (index_has x history (omega (arith, length_history)))

  halves : Parts (listed without_page) (place (t + 1) d) (place b d + k)
  halves =
      let all-less = ap ∣◌∣ from_history ∙ length_insert (place b d + k) found.it (listed without_page) in
      parts (listed without_page) (place (t + 1) d) (place b d + k)
      (omega (arith, places_in_order (t + 1) b d (omega arith)))
      (omega (arith, places_within (b + 1) d, place_next b d high, length_history))

  brought : LaidBehind d come_back L
  brought =
      let to-t = start_of_place (t + 1) d w is in
      let from-b = start_of_place b d w is in
      let a : s ≡ 8 + 2 * ∣ halves.first ∣ = omega (arith, halves) in
      let c : z ≡ s + 2 * ∣ halves.middle ∣ + 2 = omega (arith, halves) in
      moved_back d come_back halves.first halves.middle halves.last found.it e' w L s z v is
      (size_with t _ without_page ∙ size_with b _ d) a c x page new
      (from_history ∙ halves.behind found.it) (to-tail ∙ halves.in_front e') does

  lengths_there : heads come_back ≡ set (set (heads d) (4 + t) (get_or w (4 + t) 0 + 1)) (4 + b) (get_or w (4 + b) 0 - 1)
  lengths_there =
      let same = length_of_other b t (without x history) d high (omega arith) (λ e. omega arith) in
      let n : ∣ list_of (name_of t) without_page ++ (e' ∷ []) ∣ ≡ get_or w (4 + t) 0 + 1 =
      length_tail (list_of (name_of t) without_page) e' ∙ omega (arith, length_of_list t d w is (omega arith)) in
      let m : ∣ without x history ∣ ≡ get_or w (4 + b) 0 - 1 = omega (arith, length_history, one_less) in
      heads_with t _ without_page (omega arith)
      ∙ (rw (n, heads_with b _ d high, m))
      ∙ set_comm (heads d) (4 + b) (4 + t) _ _ (λ e. omega arith)

  pub page_to_tail : Holds come_back (set (set L (4 + t) (get_or w (4 + t) 0 + 1)) (4 + b) (get_or w (4 + b) 0 - 1))
  page_to_tail = two_lengths_set d come_back L brought t b _ _ (omega arith) high lengths_there

-- A new page at the tail of T1.
module _ (d : Directory) {x : ℕ} {w L : List ℕ} (is : Holds d w) (room : start_of 4 w + 2 ≤ length w)
    {s z : ℕ} (start : s ≡ start_of 1 w) (end : z ≡ start_of 4 w + 2) (does : PutIn s z x 0 w L) where
  pub new_at_tail : Holds (place_new x d) (set L 4 (get_or w 4 0 + 1))
  unfolding place_new
  new_at_tail =
      let e = new_short x in
      let d' = to_tail T1 e d in
      let rest = d.t2 ++ (d.b1 ++ d.b2) in
      let a : s ≡ 8 + 2 * ∣ d.t1 ∣ = omega (arith, start_of_place 1 d w is) in
      let b : z ≡ s + 2 * ∣ rest ∣ + 2 = simp length-append (omega (arith, start_of_place 4 d w is)) in
      let n1 = length_of_list 0 d w is (omega arith) in
      let n : get_or w 4 0 + 1 ≡ ∣ d.t1 ++ (e ∷ []) ∣ = omega (arith, length_tail d.t1 e) in
      let laid : LaidBehind d d' L =
      added d d' d.t1 rest e w L s z is refl a b refl (simp append_assoc) (omega arith) does in
      one_length_set d d' L laid 0 _ (omega arith) (rw n)

-- List b without its head.
module _ {b : ℕ} (d : Directory) {w L : List ℕ} (high : b ≤ 3) (is : Holds d w) (some : 1 ≤ get_or w (4 + b) 0)
    (fits : cached d + remembered d ≤ 2 * d.c)
    {s z : ℕ} (start : s ≡ start_of b w) (end : z ≡ start_of 4 w) (does : TakenOut s z w L) where
  abbrev list : List Entry
  list = list_of (name_of b) d

  abbrev shorter : Directory
  shorter = with_list (name_of b) (drop_head list) d

  length_before : get_or w (4 + b) 0 ≡ ∣ list ∣
  length_before = length_of_list b d w is high

  with_oldest : listed d ≡ insert (place b d) (front_of list) (listed shorter)
  with_oldest =
      listed_around b (front_of list) [] (drop_head list) d high (some_front list (omega (arith, length_before)))
      ∙ rw add-zero

  one_dropped : ∣ listed d ∣ ≡ ∣ listed shorter ∣ + 1
  one_dropped = ap ∣◌∣ with_oldest ∙ length_insert (place b d) (front_of list) (listed shorter)

  in_reach : place b d ≤ ∣ listed shorter ∣
  in_reach = omega (arith, one_dropped, places_within (b + 1) d, place_next b d high, length_before)

  pub head_dropped : Holds shorter (set L (4 + b) (get_or w (4 + b) 0 - 1))
  head_dropped =
      let ahead = take (place b d) (listed shorter) in
      let behind = drop (place b d) (listed shorter) in
      let all = length_listed d in
      let from-b = start_of_place b d w is in
      let a : s ≡ 8 + 2 * ∣ ahead ∣ = omega (arith, length-take-le (place b d) (listed shorter) in_reach) in
      let c : z ≡ s + 2 * ∣ behind ∣ + 2 =
      simp length-drop (omega (arith, start_of_place 4 d w is, one_dropped, in_reach)) in
      let n : get_or w (4 + b) 0 - 1 ≡ ∣ drop_head list ∣ = omega (arith, length_before, length_head_dropped list) in
      let left : LaidBehind d shorter L =
      dropped d shorter ahead behind (front_of list) w L s z is (size_with b _ d) a c
      with_oldest (sym (take-append-drop (place b d) (listed shorter))) (omega arith) does in
      one_length_set d shorter L left b _ high (heads_with b _ d high ∙ rw n)

-- The head of T2, its bit cleared, at the tail of T1.
module _ (d : Directory) {w : List ℕ} {at v : ℕ} (is : Holds d w) (some : 1 ≤ get_or w 5 0)
    (here : at ≡ 9 + 2 * get_or w 4 0) (new : Becomes cleared (get_or w at 0) v) where
  pub border_moved : Holds (head_to T2 T1 cleared d) (set (set (set w at v) 4 (get_or w 4 0 + 1)) 5 (get_or w 5 0 - 1))
  border_moved =
      let d' = head_to T2 T1 cleared d in
      let e = front_of d.t2 in
      let es = drop_head d.t2 in
      let rest = es ++ (d.b1 ++ d.b2) in
      let n1 = length_of_list 0 d w is (omega arith) in
      let n2 = length_of_list 1 d w is (omega arith) in
      let front : d.t2 ≡ e ∷ es = some_front d.t2 (omega arith) in
      let from : listed d ≡ d.t1 ++ (e ∷ rest) =
      ap (λ (l : List Entry). d.t1 ++ (l ++ (d.b1 ++ d.b2))) front in
      let it : at ≡ 9 + 2 * ∣ d.t1 ∣ = omega arith in
      let n : get_or w 4 0 + 1 ≡ ∣ d.t1 ++ (cleared e ∷ []) ∣ = omega (arith, length_tail d.t1 (cleared e)) in
      let m : get_or w 5 0 - 1 ≡ ∣ es ∣ = omega (arith, ap ∣◌∣ front) in
      let laid : LaidBehind d d' (set w at v) =
      reflagged d d' d.t1 rest e (cleared e) w at v is it from (simp append_assoc) refl refl
      (new e (flags_at d d' d.t1 rest e (cleared e) w at 0 is it from)) in
      two_lengths_set d d' (set w at v) laid 0 1 _ _ (omega arith) (omega arith) (rw (n, m))

-- Page x of T1 or T2 with its bit set.
module _ (d : Directory) (x : ℕ) where
  hit_listed : listed (hit x d) ≡ mark x (d.t1 ++ d.t2) ++ (d.b1 ++ d.b2)
  hit_listed = go (has x d.t1) (mark_append x d.t1 d.t2)
    where
      go : (b : Bool) → mark x (d.t1 ++ d.t2) ≡ (if b then mark x d.t1 ++ d.t2 else d.t1 ++ mark x d.t2)
          → listed (if b then with_list T1 (mark x d.t1) d else with_list T2 (mark x d.t2) d)
          ≡ mark x (d.t1 ++ d.t2) ++ (d.b1 ++ d.b2)
      go true h = rw h (simp append_assoc)
      go false h = rw h (simp append_assoc)

  hit_heads : heads (hit x d) ≡ heads d
  hit_heads = go (has x d.t1)
    where
      go : (b : Bool) → heads (if b then with_list T1 (mark x d.t1) d else with_list T2 (mark x d.t2) d) ≡ heads d
      go true = rw (length_marked x d.t1)
      go false = rw (length_marked x d.t2)

  hit_size : (hit x d).c ≡ d.c
  hit_size = ap (λ (l : List ℕ). get_or l 1 0) hit_heads

  module _ {k v : ℕ} {w : List ℕ} (is : Holds d w) (within : k < get_or w 4 0 + get_or w 5 0)
      (here : k ≡ index x (d.t1 ++ d.t2)) (new : Becomes marked (get_or w (8 + 2 * k + 1) 0) v) where
    cache : Around x (d.t1 ++ d.t2)
    cache =
        let n1 = length_of_list 0 d w is (omega arith) in
        let n2 = length_of_list 1 d w is (omega arith) in
        around x (d.t1 ++ d.t2) (simp length-append (omega arith))

    pub bit-set : Holds (hit x d) (set w (8 + 2 * k + 1) v)
    bit-set =
        let at = 8 + 2 * k + 1 in
        let e = cache.it in
        let history = d.b1 ++ d.b2 in
        let rest = cache.behind ++ history in
        let from : listed d ≡ cache.ahead ++ (e ∷ rest) =
        sym (append_assoc d.t1 d.t2 history)
        ∙ rw cache.whole (append_assoc cache.ahead (e ∷ cache.behind) history) in
        let to : listed (hit x d) ≡ cache.ahead ++ (marked e ∷ rest) =
        hit_listed ∙ rw cache.marks (append_assoc cache.ahead (marked e ∷ cache.behind) history) in
        let it : at ≡ 9 + 2 * ∣ cache.ahead ∣ = omega (arith, cache.length_ahead) in
        let laid : LaidBehind d (hit x d) (set w at v) =
        reflagged d (hit x d) cache.ahead rest e (marked e) w at v is it from to hit_size refl
        (new e (flags_at d (hit x d) cache.ahead rest e e w at 0 is it from)) in
        no_length_set d (hit x d) (set w at v) laid hit_heads
