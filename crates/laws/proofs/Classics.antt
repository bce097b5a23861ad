-- FIFO, CLOCK and LRU over what they share: CLOCK's evict part stops by itself and forgets one page of T1, and where no
-- bit is set it is FIFO's and LRU's. A new page and every hit keep T1 alone.
use Rattle.std.specs.Prelude.{if◌then◌else◌}
use mathlib.Core.Path.{◌≡◌, refl, subst}
use mathlib.Core.Bool.{Bool, true, false}
use mathlib.Core.List.{List, [], ◌∷◌}
use Prim.Native.Nat.{ℕ, ◌+◌, ◌≤◌}
use native.Mathlib.Omega.{arith}
use lib.Dec.{eqb}
use Rattle.terms.specs.Choice.{∣◌∣}
use Rattle.terms.proofs.Choice.{by_test}
use Rattle.figures.specs.Entry.{Entry, new_short, cleared, bits, long, total}
use Rattle.figures.specs.Directory.{Directory, T1, hit, place_new, cached, listed, in_cache}
use Rattle.figures.specs.Hand.{Hand, begin, turn, forget, Look, again, stop, onward, repeat}
use Rattle.figures.specs.Classics.{renew, forget_head, evict, look, clock_look, clock_evict}
use Rattle.figures.specs.Demands.{ClockStops, Forgotten, ClearClockEvicts}
use Rattle.laws.proofs.Entries.{set_bits, clear_bits}
use Rattle.laws.proofs.Lists.{is, is_itself, is_at_most_one, bits_at_most_one, counts_lacks}
use Rattle.laws.proofs.Lists.{total_append, total_tail, total_at_most}
use Rattle.laws.proofs.Lists.{length_marked, total_marked_same, total_renewed}
use Rattle.laws.proofs.Repeats.{ComesTo, EndsWith, repeat_ends}
use Rattle.laws.proofs.Facts.{Shared, AloneFacts, ClearFacts}
use Rattle.laws.proofs.Placing.{hit_either}
use Rattle.laws.proofs.Turns.{holding, Turned, not_turned, turned_on, still_cached, Vacated, forgotten_t1}

-- CLOCK'S EVICT PART

-- Between two looks: each move has cleared a bit.
record ClockTurning (d : Directory) (a : Hand) : Type 0 where
  turned : Turned d a
  own : AloneFacts a.dir
  moves_are_bits : a.moves ≡ a.cleared

-- What the evict part leaves; its last move clears no bit.
pub record Forgot (d : Directory) (z : Hand) : Type 0 where
  pub evicted : Vacated 0 d z
  pub own : AloneFacts z.dir
  pub moves_are_bits : z.moves ≡ z.cleared + 1

abbrev left : Hand → ℕ
left a = in_cache bits a.dir

module _ (d : Directory) (shared : Shared d) (own : AloneFacts d) (full : cached d ≡ d.c) where
  abbrev ClockLooked : Hand → Look → Type 0
  ClockLooked = ComesTo (ClockTurning d) (Forgot d) left

  from_head : (l : List Entry) (a : Hand) → let h = holding T1 l a in
      ClockTurning d h → 1 ≤ ∣ l ∣ → ClockLooked h (look l h)
  from_head [] a t some = absurd (omega arith)
  from_head (e ∷ es) a t some =
      by_test (ClockLooked (holding T1 (e ∷ es) a)) e.bit
      (λ set. record {
        good = record {
          turned = turned_on t.turned e e refl (λ count. omega (arith, total_tail count es (cleared e)));
          own = omega (arith, t.own, total_tail long es (cleared e));
          moves_are_bits = omega (arith, t.moves_are_bits, set_bits e set);
        };
        less = omega (arith, total_tail bits es (cleared e), set_bits e set);
      })
      (λ clear. record {
        evicted = forgotten_t1 shared e es a t.turned (clear_bits e clear).0;
        own = omega (arith, t.own);
        moves_are_bits = omega (arith, t.moves_are_bits);
      })

  -- T1 has all c pages, so that there is a head.
  looks : (a : Hand) → ClockTurning d a → ClockLooked a (clock_look a)
  looks a t = from_head a.dir.t1 a t (omega (arith, still_cached t.turned, t.own, shared.bounds))

  ended : EndsWith clock_look (Forgot d) (begin 0 0 d) (clock_evict d)
  unfolding clock_evict
  ended =
      let begins : ClockTurning d (begin 0 0 d) =
      record { turned = not_turned 0 0 d; own = own; moves_are_bits = refl } in
      repeat_ends clock_look (ClockTurning d) (Forgot d) left looks _ _ begins (omega arith)

  pub clock_stops : ClockStops d
  clock_stops = ended.by_itself

  pub clock_forgets : Forgot d (clock_evict d)
  clock_forgets = ended.holds

-- FIFO'S AND LRU'S: a head with its bit clear is forgotten at once.

at_once : (l : List Entry) (h : Hand) (rest : Hand → Hand) → total bits l ≡ 0
    → onward (look l h) h rest ≡ forget_head l h
at_once [] h rest clear = refl
at_once (e ∷ es) h rest clear = go e.bit clear
  where
    go : (b : Bool) → (if b then 1 else 0) + total bits es ≡ 0
        → onward (if b then again (turn T1 T1 cleared e es h) else stop (forget T1 e es h)) h rest ≡ forget T1 e es h
    go true clear = absurd (omega arith)
    go false clear = refl

pub clear_clock_evicts : ClearClockEvicts
unfolding evict clock_evict repeat
clear_clock_evicts d clear = at_once d.t1 (begin 0 0 d) _ (omega arith)

pub no_bits : (d : Directory) → ClearFacts d → in_cache bits d ≡ 0
no_bits d own = omega (arith, own, total_at_most bits 1 bits_at_most_one d.t2)

pub clear_forgets : (d : Directory) → Shared d → ClearFacts d → cached d ≡ d.c → Forgot d (evict d)
clear_forgets d shared own full =
    subst (Forgot d) (clear_clock_evicts d (no_bits d own)) (clock_forgets d shared own.alone full)

-- "evicted and forgotten": the page was listed once, in T1, and leaves it.
pub forgotten : (d : Directory) (z : Hand) → Shared d → Forgot d z → Forgotten z
forgotten d z shared f =
    let x = z.page in
    let d' = z.dir in
    let most = total_at_most (is x) 1 (is_at_most_one x) in
    let leaves = f.evicted.evicts.page_leaves (λ page. if eqb page x then 1 else 0) in
    counts_lacks x (listed d')
    (simp total_append
    (omega (
      arith,
      leaves,
      is_itself x (new_short x) refl,
      shared.pages_differ x,
      f.own,
      most d'.t2,
      most d'.b1,
      most d'.b2,
    )))

-- A NEW PAGE, AND EACH HIT

pub alone_new : (x : ℕ) (d : Directory) → AloneFacts d → AloneFacts (place_new x d)
unfolding place_new
alone_new x d own = omega (arith, own, total_tail long d.t1 (new_short x))

pub new_bits : (x : ℕ) (d : Directory) → in_cache bits (place_new x d) ≡ in_cache bits d
unfolding place_new
new_bits x d = omega (arith, total_tail bits d.t1 (new_short x))

pub alone_marked : (x : ℕ) (d : Directory) → AloneFacts d → AloneFacts (hit x d)
alone_marked x d own =
    hit_either AloneFacts x d (omega (arith, own, total_marked_same long (λ e. refl) x d.t1))
    (omega (arith, own, length_marked x d.t2))

pub clear_renewed : (x : ℕ) (d : Directory) → ClearFacts d → ClearFacts (renew x d)
unfolding renew
clear_renewed x d own = omega (arith, own, total_renewed long x d.t1, total_renewed bits x d.t1)
