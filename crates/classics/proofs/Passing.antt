-- CLOCK's hand in the words: at a set bit the head goes to the tail, and the repeat is led on, with a set bit less.
-- Each turn is one of the definition's looks.
use mathlib.Core.Path.{◌≡◌, refl, sym, ap, ◌∙◌, subst}
use mathlib.Core.Bool.{Bool, true, false}
use mathlib.Core.List.{List, ◌∷◌}
use Prim.Native.Nat.{ℕ, ◌+◌, ◌≤◌, ◌<◌}
use native.Mathlib.Omega.{arith}
use lib.ListN.{get_or}
use Rattle.terms.specs.Choice.{∣◌∣}
use Rattle.figures.specs.Entry.{Entry, cleared, bits, total, drop_head}
use Rattle.figures.specs.Directory.{Directory, T1}
use Rattle.figures.specs.Words.{decode}
use Rattle.figures.specs.Hand.{Hand, turn, here}
use Rattle.figures.specs.Classics.{alone_sound}
use Rattle.laws.proofs.Entries.{set_bits}
use Rattle.laws.proofs.Lists.{length_tail, total_tail, total_at_most, bits_at_most_one}
use Rattle.laws.proofs.Encoding.{decoded}
use Rattle.laws.proofs.Facts.{AloneFacts}
use Rattle.laws.proofs.Soundness.{alone_iff}
use Rattle.laws.proofs.Repeats.{leads_on}
use Rattle.engine.specs.declared.Hand.{Hand as Counted}
use Rattle.engine.specs.Shown.{turned_once}
use Rattle.engine.specs.Heads.{front_of}
use Rattle.engine.proofs.Heads.{some_front}
use Rattle.entries.specs.Holds.{Holds}
use Rattle.entries.specs.Flags.{Says, Becomes}
use Rattle.entries.specs.Leaves.{HeadMoved}
use Rattle.entries.specs.Stretches.{Room}
use Rattle.entries.proofs.Laid.{header}
use Rattle.entries.proofs.Heads.{flags_read, head_moved}
use Rattle.entries.proofs.Rooms.{Filled, filled, roomy}
use Rattle.classics.specs.Queues.{FullQueue, Led, Passed}

-- A full directory of one of the three, before the first look.
module _ {w : List ℕ} (f : FullQueue w) where
  pub held : Filled (get_or w 0 0) w
  held = filled (record { is_sound = f.is_sound; is_named = refl; is-full = f.is-full })

  pub own : AloneFacts (decode w)
  own = (alone_iff (decode w)).0 (subst (λ (l : List ℕ). alone_sound l ≡ true) (sym held.is) f.is_alone)

  pub begins : {k : Counted} → (k.moves ≡ 0) × (k.cleared ≡ 0) → Led w k w
  begins none = record {
    at = _;
    leads = here;
    shown = held.is;
    counts = record { moves_is = none.0; cleared_is = none.1 };
    all_cleared = omega arith;
    queue =
        omega (arith, held.shared.bounds, held.full, own, total_at_most bits 1 bits_at_most_one (decode w).t1);
  }

-- The repeat is led on by one look, with a set bit less.
pub record LedOn (w : List ℕ) (k : Counted) (v v' : List ℕ) : Type 0 where
  pub led : Led w (turned_once k) v'
  pub fewer : total bits (decode v').t1 < total bits (decode v).t1

-- Between two looks.
module _ {w v : List ℕ} {k : Counted} (l : Led w k v) where
  abbrev d : Directory
  d = l.at.dir

  pub room : Room v
  room = roomy d l.shown (omega (arith, l.queue)) l.queue.bounds.c_most

  pub some : 1 ≤ get_or v 4 0
  some = omega (arith, l.queue, header d v l.shown)

  front : d.t1 ≡ front_of d.t1 ∷ drop_head d.t1
  front = some_front d.t1 (omega (arith, l.queue))

  -- what the head's flags say of its bit
  module _ {bit : Bool} (says : Says (λ e. e.bit) (get_or v 9 0) bit) where
    bit_is : bit ≡ (front_of d.t1).bit
    bit_is = says (front_of d.t1) (flags_read {i = 0} (omega arith) some refl d l.shown)

    pub passed : bit ≡ false → Passed w k v
    passed is = record { led = l; clear = sym bit_is ∙ is }

    module _ {f : ℕ} {v' : List ℕ} (is : bit ≡ true) (becomes : Becomes cleared (get_or v 9 0) f)
        (moved : HeadMoved 0 0 f v v') where
      abbrev e : Entry
      e = front_of d.t1

      abbrev next : Hand
      next = turn T1 T1 cleared e (drop_head d.t1) l.at

      set : e.bit ≡ true
      set = sym bit_is ∙ is

      shown_next : Holds next.dir v'
      shown_next = head_moved {i = 0} (omega arith) some refl 0 cleared (λ e. refl) becomes moved d l.shown

      counted : (∣ next.dir.t1 ∣ ≡ ∣ d.t1 ∣) × (total bits next.dir.t1 + 1 ≡ total bits d.t1)
      counted =
          let es = drop_head d.t1 in
          omega (
            arith,
            ap ∣◌∣ front,
            ap (total bits) front,
            set_bits e set,
            length_tail es (cleared e),
            total_tail bits es (cleared e),
          )

      pub led_on : LedOn w k v v'
      led_on = record {
        led = record {
          at = next;
          leads = leads_on l.leads (rw (front, set));
          shown = shown_next;
          counts = omega (arith, l.counts, set_bits e set);
          all_cleared = omega (arith, l.all_cleared);
          queue = omega (arith, l.queue, counted);
        };
        fewer = rw (decoded next.dir shown_next, decoded d l.shown) (omega (arith, counted));
      }
