-- What the policies share: turns of a head to a tail of T1 or T2, the choice between the two, the last move, the trim.
-- Each law is over any count of entries, so that a size, which counts ones, needs no law of its own.
use Rattle.std.specs.Prelude.{if◌then◌else◌}
use mathlib.Core.Path.{◌≡◌, refl, ap}
use mathlib.Core.List.{List, ◌∷◌}
use Prim.Native.Nat.{ℕ, ◌+◌, ◌≤◌}
use native.Mathlib.Omega.{arith}
use lib.Dec.{eqb}
use borrow.Author.Tests.{leb-true, leb-false}
use Rattle.terms.specs.Choice.{∣◌∣}
use Rattle.terms.proofs.Choice.{by_test}
use Rattle.figures.specs.Entry.{Entry, cleared, demoted, bits, total, drop_head}
use Rattle.figures.specs.Directory.{Directory, Name, T1, T2, B1, B2, with_list, with_lists, with_q}
use Rattle.figures.specs.Directory.{cached, remembered, in_cache, t1_at_target}
use Rattle.figures.specs.Hand.{Hand, begin, with_dir, with_counts, demote, forget}
use Rattle.figures.specs.Demands.{Evicts, by_page, HeadDropped}
use Rattle.laws.proofs.Lists.{has_head, is, one, total_tail, total_head_dropped, length_head_dropped}
use Rattle.laws.proofs.Facts.{in_history, cached_counts, remembered_counts, Shared, Opened, Trimmed}

-- The hand with l for its list i. With that list itself it is the same hand, so that a law by clauses on l is a law of
-- its list.
abbrev pub holding : Name → List Entry → Hand → Hand
holding i l h = with_dir (with_list i l h.dir) h

-- What turns keep of the directory d that the hand began with.

pub record Turned (d : Directory) (a : Hand) : Type 0 where
  pub same_policy : a.dir.policy ≡ d.policy
  pub same_c : a.dir.c ≡ d.c
  pub same_p : a.dir.p ≡ d.p
  pub same_b1 : a.dir.b1 ≡ d.b1
  pub same_b2 : a.dir.b2 ≡ d.b2
  pub same_pages : (read : ℕ → ℕ) → in_cache (λ e. read e.page) a.dir ≡ in_cache (λ e. read e.page) d
  pub bits_accounted : in_cache bits d ≡ in_cache bits a.dir + a.cleared

pub not_turned : (n_s n_l : ℕ) (d : Directory) → Turned d (begin n_s n_l d)
not_turned n_s n_l d = record {
  same_policy = refl;
  same_c = refl;
  same_p = refl;
  same_b1 = refl;
  same_b2 = refl;
  same_pages = λ read. refl;
  bits_accounted = omega arith;
}

-- A turn of e: T1, T2, q, n_S and n_L are then these.
abbrev pub turned_to : Entry → List Entry → List Entry → ℕ → ℕ → ℕ → Hand → Hand
turned_to e t1 t2 q n_s n_l a = record {
  dir = with_q q (with_lists t1 t2 a.dir.b1 a.dir.b2 a.dir);
  n_s = n_s;
  n_l = n_l;
  moves = a.moves + 1;
  cleared = a.cleared + bits e;
  page = a.page;
  list = a.list;
}

-- T1 and T2 with these lists hold what they held, but in place of e they hold e' with its bit clear.
abbrev pub Exchanged : Entry → Entry → List Entry → List Entry → Directory → Type 0
Exchanged e e' t1 t2 d =
    (count : Entry → ℕ) → total count t1 + total count t2 + count e ≡ in_cache count d + count (cleared e')

module _ {d : Directory} {a : Hand} (t : Turned d a) where
  pub still_cached : cached a.dir ≡ cached d
  still_cached = omega (arith, t.same_pages (λ page. 1), cached_counts d, cached_counts a.dir)

  same_page : (x : ℕ) → in_cache (is x) a.dir ≡ in_cache (is x) d
  same_page x = t.same_pages (λ page. if eqb page x then 1 else 0)

  still_remembered : (count : Entry → ℕ) → in_history count a.dir ≡ in_history count d
  still_remembered count = omega (arith, ap (total count) t.same_b1, ap (total count) t.same_b2)

  pub turned_on : {t1 t2 : List Entry} {q n_s n_l : ℕ} (e e' : Entry) → e'.page ≡ e.page
      → Exchanged e e' t1 t2 a.dir → Turned d (turned_to e t1 t2 q n_s n_l a)
  turned_on e e' same_page exchanged = record {
    same_policy = t.same_policy;
    same_c = t.same_c;
    same_p = t.same_p;
    same_b1 = t.same_b1;
    same_b2 = t.same_b2;
    same_pages = λ read. omega (arith, t.same_pages read, exchanged (λ e. read e.page), ap read same_page);
    bits_accounted = omega (arith, exchanged bits);
  }

-- Both figures choose between T1 and T2 by one test, and the chosen list has a head. Its last move takes it out of the
-- cache, to its history or, where none is kept, to nowhere: so many more are remembered then.

pub record Vacated (more : ℕ) (d : Directory) (z : Hand) : Type 0 where
  pub opens : Opened d z.dir
  pub evicts : Evicts d z
  pub remembers : remembered z.dir ≡ remembered d + more

abbrev vacated_to : Entry → ℕ → List Entry → List Entry → List Entry → List Entry → ℕ → ℕ → Hand → Hand
vacated_to e list t1 t2 b1 b2 n_s n_l a = record {
  dir = with_lists t1 t2 b1 b2 a.dir;
  n_s = n_s;
  n_l = n_l;
  moves = a.moves + 1;
  cleared = a.cleared;
  page = e.page;
  list = list;
}

module _ {d : Directory} (shared : Shared d) where
  pub by_choice : cached d ≡ d.c → {A : Type 0} (P : A → Type 0) {x y : A} {a : Hand} → Turned d a
      → (1 ≤ ∣ a.dir.t1 ∣ → P x) → (1 ≤ ∣ a.dir.t2 ∣ → P y) → P (if t1_at_target a.dir then x else y)
  by_choice full P {a = a} t from_t1 from_t2 =
      by_test P (t1_at_target a.dir) (λ test. from_t1 (omega (arith, leb-true)))
      (λ test. from_t2 (omega (arith, leb-false, still_cached t)))

  -- What a history keeps of e counts for no more than e does.
  evicted : {a : Hand} {list : ℕ} {t1 t2 b1 b2 : List Entry} {n_s n_l : ℕ} (kept : (Entry → ℕ) → ℕ) → Turned d a
      → (e : Entry) → bits e ≡ 0 → (1 ≤ list) × (list ≤ 2) → ((count : Entry → ℕ) → kept count ≤ count e)
      → ((count : Entry → ℕ) → total count t1 + total count t2 + count e ≡ in_cache count a.dir)
      → ((count : Entry → ℕ) → total count b1 + total count b2 ≡ in_history count a.dir + kept count)
      → Vacated (kept one) d (vacated_to e list t1 t2 b1 b2 n_s n_l a)
  evicted {a} {t1 = t1} {t2 = t2} {b1 = b1} {b2 = b2} kept t e clear named most taken given =
      let d' = with_lists t1 t2 b1 b2 a.dir in
      let remembers : remembered d' ≡ remembered d + kept one =
      omega (arith, given one, still_remembered t one, remembered_counts d, remembered_counts d') in
      let opens : Opened d d' = record {
        same_policy = t.same_policy;
        same_c = t.same_c;
        same_p = t.same_p;
        one_less = omega (arith, still_cached t, taken one, cached_counts a.dir, cached_counts d');
        one_more = omega (arith, most one);
        none_listed = λ x.
            omega (arith, taken (is x), given (is x), most (is x), still_remembered t (is x), same_page t x);
        none_enters = λ x. omega (arith, taken (is x), same_page t x);
        history_clear = omega (arith, given bits, most bits, still_remembered t bits);
      } in
      record {
        opens = opens;
        evicts = record {
          from_t1_or_t2 = named;
          one_less = opens.one_less;
          page_leaves = λ count. omega (arith, taken (by_page count), t.same_pages count);
          demoted_clear = opens.history_clear;
          bits_accounted = omega (arith, taken bits);
        };
        remembers = remembers;
      }

  pub evicted_t1 : {n_s n_l : ℕ} (e : Entry) (es : List Entry) (a : Hand)
      → let h = holding T1 (e ∷ es) a in Turned d h → bits e ≡ 0
      → Vacated 1 d (with_counts n_s n_l (demote T1 B1 e es h))
  evicted_t1 e es a t clear =
      evicted (λ count. count (demoted e)) t e clear (omega arith) (λ count. omega arith) (λ count. omega arith)
      (λ count. omega (arith, total_tail count a.dir.b1 (demoted e)))

  pub evicted_t2 : {n_s n_l : ℕ} (e : Entry) (es : List Entry) (a : Hand)
      → let h = holding T2 (e ∷ es) a in Turned d h → bits e ≡ 0
      → Vacated 1 d (with_counts n_s n_l (demote T2 B2 e es h))
  evicted_t2 e es a t clear =
      evicted (λ count. count (demoted e)) t e clear (omega arith) (λ count. omega arith) (λ count. omega arith)
      (λ count. omega (arith, total_tail count a.dir.b2 (demoted e)))

  pub forgotten_t1 : (e : Entry) (es : List Entry) (a : Hand)
      → let h = holding T1 (e ∷ es) a in Turned d h → bits e ≡ 0 → Vacated 0 d (forget T1 e es h)
  forgotten_t1 e es a t clear =
      evicted (λ count. 0) t e clear (omega arith) (λ count. omega arith) (λ count. omega arith) (λ count. omega arith)

-- A trim takes the head of one history, or nothing.

module _ (d : Directory) where
  pub dropped_b1 : 1 ≤ ∣ d.b1 ∣ → HeadDropped B1 d (with_list B1 (drop_head d.b1) d)
  dropped_b1 some = let f = has_head d.b1 some in record { head = f.head; was_there = (cc); else_same = refl }

  pub dropped_b2 : 1 ≤ ∣ d.b2 ∣ → HeadDropped B2 d (with_list B2 (drop_head d.b2) d)
  dropped_b2 some = let f = has_head d.b2 some in record { head = f.head; was_there = (cc); else_same = refl }

  trimmed : {b1 b2 : List Entry} → ((count : Entry → ℕ) → total count b1 ≤ total count d.b1)
      → ((count : Entry → ℕ) → total count b2 ≤ total count d.b2) → ∣ b1 ∣ + ∣ b2 ∣ ≤ d.c
      → Trimmed d (with_lists d.t1 d.t2 b1 b2 d)
  trimmed fewer_b1 fewer_b2 fits = record {
    same_policy = refl;
    same_c = refl;
    same_p = refl;
    same_t1 = refl;
    same_t2 = refl;
    fewer_b1 = fewer_b1;
    fewer_b2 = fewer_b2;
    history_fits = fits;
  }

  pub trimmed_not : remembered d ≤ d.c → Trimmed d d
  trimmed_not fits = trimmed (λ count. omega arith) (λ count. omega arith) fits

  pub trimmed_b1 : remembered d ≤ d.c + 1 → 1 ≤ ∣ d.b1 ∣ → Trimmed d (with_list B1 (drop_head d.b1) d)
  trimmed_b1 history some =
      trimmed (λ count. total_head_dropped count d.b1) (λ count. omega arith)
      (omega (arith, length_head_dropped d.b1))

  pub trimmed_b2 : remembered d ≤ d.c + 1 → 1 ≤ ∣ d.b2 ∣ → Trimmed d (with_list B2 (drop_head d.b2) d)
  trimmed_b2 history some =
      trimmed (λ count. omega arith) (λ count. total_head_dropped count d.b2)
      (omega (arith, length_head_dropped d.b2))
