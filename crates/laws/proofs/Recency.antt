-- LRU: a request from the directory that holds the first c of a list leaves the one that holds the first c of the list
-- with the requested page in front. So a run's T1 is the last c different pages of its trace.
use Rattle.std.specs.Prelude.{if◌then◌else◌}
use mathlib.Core.Path.{◌≡◌, refl, sym, ap, ◌∙◌, subst}
use mathlib.Core.Bool.{true, false, ◌||◌, false≢true, or-false}
use mathlib.Core.List.{List, [], ◌∷◌, ◌++◌, map, map-append, reverse, reverse_aux, reverse-cons, reverse-reverse}
use Prim.Native.Nat.{ℕ, zero, suc, ◌≤◌}
use native.Mathlib.Omega.{arith}
use lib.ListN.{take, length-map, length-reverse, length-take}
use lib.Seq.{take_all, take_at, take-take}
use lib.Dec.{eqb}
use borrow.Author.Tests.{eqb-true, eqb-false}
use Rattle.terms.specs.Choice.{∣◌∣}
use Rattle.terms.specs.Policies.{lru}
use Rattle.terms.proofs.Choice.{by_test}
use Rattle.terms.proofs.Tests.{reads}
use Rattle.figures.specs.Entry.{Entry, new_short, total, has, without, only}
use Rattle.figures.specs.Directory.{Directory, fresh, T1, with_list, place_new, cached}
use Rattle.figures.specs.Classics as Classics
use Rattle.figures.specs.Policy.{lru_policy}
use Rattle.figures.specs.Request.{Served, missed, request}
use Rattle.figures.specs.Run.{zero_tally}
use Rattle.figures.specs.Recency.{leave_out, recent, lru_holding}
use Rattle.figures.specs.Demands.{Sound, LruHoldsRecent}
use Rattle.laws.proofs.Lists.{is, length_without, counts_lacks}
use Rattle.laws.proofs.Soundness.{facts}
use Rattle.laws.proofs.Requests.{serve_by_cases, missed_new, after, run_after}
use Rattle.laws.proofs.Kept.{request_keeps, fresh_is_sound}

-- T1 under LRU, by its pages.
abbrev entries : List ℕ → List Entry
entries l = map new_short l

module _ (x : ℕ) where
  without_entries : (l : List ℕ) → without x (entries l) ≡ entries (leave_out x l)
  without_entries [] = refl
  without_entries (y ∷ l) =
      by_test (λ w. w ≡ entries (leave_out x (y ∷ l))) (eqb y x) (λ same. cc) (λ other. cc (without_entries l))

  only_entries : (l : List ℕ) → has x (entries l) ≡ true → only x (entries l) ≡ new_short x ∷ []
  only_entries [] found = absurd (false≢true found)
  only_entries (y ∷ l) found =
      by_test (λ (e : List Entry). e ≡ new_short x ∷ []) (eqb y x) (λ same. cc (eqb-true y x same))
      (λ other. only_entries l (rw other at found))

  -- A page that is listed once at most is left out from either end alike.
  leave_out_reversed : (l r : List ℕ) → total (is x) (entries l) ≤ 1
      → leave_out x (reverse_aux l r)
      ≡ (if has x (entries l) then reverse_aux (leave_out x l) r else reverse_aux l (leave_out x r))
  leave_out_reversed [] r once = refl
  leave_out_reversed (y ∷ l) r once =
      let ih = leave_out_reversed l (y ∷ r) (omega arith) in
      by_test
      (λ b. leave_out x (reverse_aux l (y ∷ r))
      ≡ (if b then reverse_aux (leave_out x (y ∷ l)) r else reverse_aux (y ∷ l) (leave_out x r)))
      (eqb y x)
      (λ same. let lacks = counts_lacks x (entries l) (omega (arith, rw same at once)) in cc)
      (λ other. cc)

  -- Without x, the first n pages are among the first n + 1 with it.
  take_leave_out : (n : ℕ) (l : List ℕ) → take n (leave_out x l) ≡ take n (leave_out x (take (suc n) l))
  take_leave_out zero l = refl
  take_leave_out (suc n) [] = refl
  take_leave_out (suc n) (y ∷ l) =
      by_test (λ m. take (suc n) m ≡ take (suc n) (leave_out x (y ∷ take (suc n) l))) (eqb y x)
      (λ same. cc (take-take (suc n) (suc n) l (omega arith)))
      (λ other. cc (take_leave_out n l))

-- ONE REQUEST

module _ (x n : ℕ) (l : List ℕ) (s : Sound (lru_holding (suc n) l)) where
  abbrev d : Directory
  d = lru_holding (suc n) l

  -- the pages of T1, from head to tail
  abbrev t1 : List ℕ
  t1 = reverse (take (suc n) l)

  -- the directory that the request leaves
  abbrev next : Directory
  next = lru_holding (suc n) (x ∷ leave_out x l)

  t1_fits : ∣ t1 ∣ ≤ suc n
  t1_fits = omega (arith, length-reverse (take (suc n) l), length-take (suc n) l)

  -- Behind x come the pages of T1 without it, at most n.
  behind : take n (leave_out x l) ≡ take n (if has x (entries t1) then reverse (leave_out x t1) else reverse t1)
  behind =
      let once : total (is x) (entries t1) ≤ 1 = omega (arith, (facts d s).shared.pages_differ x) in
      take_leave_out x n l
      ∙ ap (λ (m : List ℕ). take n (leave_out x m)) (sym (reverse-reverse (take (suc n) l)))
      ∙ ap (take n) (leave_out_reversed x t1 [] once)

  -- So T1 is right where x comes to the tail of those.
  at_tail : (rest : List ℕ) → take n (leave_out x l) ≡ reverse rest
      → with_list T1 (entries rest ++ (new_short x ∷ [])) d ≡ next
  at_tail rest same =
      let turned : reverse (x ∷ take n (leave_out x l)) ≡ rest ++ (x ∷ []) =
      reverse-cons x (take n (leave_out x l)) ∙ rw (same, reverse-reverse) in
      rw (turned, map-append)

  -- A hit: x goes to the tail.
  by_hit : has x (entries t1) || false ≡ true → Classics.renew x d ≡ next
  unfolding Classics.renew
  by_hit h =
      let found = rw or-false at h in
      let one_less = simp (without_entries, length-map) at (length_without x (entries t1) found) in
      let fits : ∣ reverse (leave_out x t1) ∣ ≤ n = omega (arith, t1_fits, one_less, length-reverse (leave_out x t1)) in
      rw (without_entries, only_entries x t1 found)
      (at_tail (leave_out x t1) (behind ∙ rw found (take_all n (reverse (leave_out x t1)) fits)))

  -- A miss, and there is room: all of T1 stays.
  by_room : has x (entries t1) || false ≡ false → eqb (cached d) (suc n) ≡ false → place_new x d ≡ next
  unfolding place_new
  by_room h room =
      let lacks = rw or-false at h in
      let differs = rw length-map at (eqb-false (cached d) (suc n) room) in
      let fits : ∣ reverse t1 ∣ ≤ n = omega (arith, t1_fits, length-reverse t1) in
      at_tail t1 (behind ∙ rw lacks (take_all n (reverse t1) fits))

  -- A miss in a full cache: T1's head, the last of the first n + 1, is forgotten.
  by_full : has x (entries t1) || false ≡ false → eqb (cached d) (suc n) ≡ true
      → (missed lru_policy x (Classics.evict d)).dir ≡ next
  unfolding Classics.evict Classics.trim place_new
  by_full h full = go t1 refl
    where
      lacks : has x (entries t1) ≡ false
      lacks = rw or-false at h

      filled : ∣ t1 ∣ ≡ suc n
      filled = omega (arith, rw length-map at (eqb-true (cached d) (suc n) full))

      go : (pages : List ℕ) → t1 ≡ pages
          → (missed lru_policy x (Classics.evict (with_list T1 (entries pages) d))).dir ≡ next
      go [] is = absurd (omega (arith, rw is at filled))
      go (y ∷ rest) is =
          let size : ∣ reverse rest ∣ ≡ n = omega (arith, rw is at filled, length-reverse rest) in
          ap (λ (served : Served). served.dir) (missed_new lru_policy x _ refl refl)
          ∙ at_tail rest (behind ∙ rw (lacks, is, reverse-cons) (take_at (reverse rest) (y ∷ []) n size))

  pub request_follows : (request x d).dir ≡ next
  request_follows = serve_by_cases lru_policy x d (λ served. served.dir ≡ next) by_hit by_room by_full

-- A RUN

module _ (n : ℕ) where
  -- the directory after a past
  abbrev at : List ℕ → Directory
  at past = lru_holding (suc n) (recent past)

  run_follows : (trace past : List ℕ) → Sound (at past) → after trace (at past) ≡ at (reverse_aux trace past)
  run_follows [] past s = refl
  run_follows (x ∷ trace) past s =
      let step = request_follows x n (recent past) s in
      let kept = subst Sound step (request_keeps x (at past) s).sound_again in
      ap (after trace) step ∙ run_follows trace (x ∷ past) kept

-- The pages of T1, read from its other end.
pages_reversed : (l : List ℕ) (r : List Entry)
    → map (λ e. e.page) (reverse_aux (entries l) r) ≡ reverse_aux l (map (λ e. e.page) r)
pages_reversed [] r = refl
pages_reversed (x ∷ l) r = pages_reversed l (new_short x ∷ r)

pub lru_holds_recent : LruHoldsRecent
lru_holds_recent zero least most trace = absurd (omega arith)
lru_holds_recent (suc n) least most trace =
    let s = fresh_is_sound lru (suc n) refl (simp reads (least, most)) in
    let whole = run_after zero_tally trace (fresh lru (suc n)) ∙ run_follows n trace [] s in
    let held = take (suc n) (recent (reverse trace)) in
    record { tail_to_head = rw whole (pages_reversed (reverse held) [] ∙ reverse-reverse held); whole = whole }
