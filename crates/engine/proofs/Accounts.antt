-- Every move of CART's passes keeps the accounts: it lowers what the cache may still cost by one at least.
-- By what is known of the head's bit and filter.
use mathlib.Core.Path.{◌≡◌, ap}
use mathlib.Core.Bool.{true, false}
use mathlib.Core.List.{List, ◌∷◌}
use Prim.Native.Nat.{ℕ, ◌+◌, ◌≤◌}
use native.Mathlib.Omega.{arith}
use Rattle.terms.specs.Choice.{∣◌∣}
use Rattle.figures.specs.Entry.{Entry, L, cleared, is_long, bits, short, long, total}
use Rattle.figures.specs.Directory.{Directory, T1, T2, with_list, to_tail, cached}
use Rattle.figures.specs.Cart.{cost, raise, lower}
use Rattle.laws.proofs.Entries.{set_bits, clear_bits, short_filter, long_filter, is-short}
use Rattle.laws.proofs.Cart.{raise_leaves}
use Rattle.laws.proofs.Lists.{length_tail, total_tail, short_or_long, short_and_long}
use Rattle.engine.specs.declared.counts.ShortCount.{ShortCount}
use Rattle.engine.specs.declared.counts.LongCount.{LongCount}
use Rattle.engine.specs.declared.counts.Kept.{Kept}
use Rattle.engine.specs.Passes.{Accounts}

-- What is kept after one more move, with these counts and so many bits cleared.
abbrev pub after_move : ShortCount → LongCount → ℕ → Kept → Kept
after_move n_s n_l bits k = record { short = n_s; long = n_l; hand = record { moves = k.hand.moves + 1; cleared = bits } }

module _ (d : Directory) (e : Entry) (es : List Entry) {k : Kept} where
  -- T2's head, its bit set, to T1's tail.
  pub t2_to_t1 : d.t2 ≡ e ∷ es → e.bit ≡ true → Accounts d k
      → Accounts (to_tail T1 (cleared e) (with_list T2 es d)) (after_move k.short k.long (k.hand.cleared + 1) k)
  t2_to_t1 front set a =
      let l = d.t1 in
      let e' = cleared e in
      omega (
        arith,
        ap ∣◌∣ front,
        ap (total short) front,
        ap (total long) front,
        ap (total bits) front,
        set_bits e set,
        total_tail short l e',
        total_tail long l e',
        total_tail cost l e',
        length_tail l e',
        short_or_long e.filter,
      )

  -- T1's head, its bit set, to T1's tail, where it is e'.
  pub t1_round : (e' : Entry) (n_s : ShortCount) (n_l : LongCount) → d.t1 ≡ e ∷ es → e.bit ≡ true → e'.bit ≡ false
      → n_s.0 + short e ≡ k.short.0 + short e' → n_l.0 + long e ≡ k.long.0 + long e'
      → Accounts d k → Accounts (to_tail T1 e' (with_list T1 es d)) (after_move n_s n_l (k.hand.cleared + 1) k)
  t1_round e' n_s n_l front set clear n_s_follows n_l_follows a =
      omega (
        arith,
        ap ∣◌∣ front,
        ap (total short) front,
        ap (total long) front,
        ap (total cost) front,
        set_bits e set,
        clear_bits e' clear,
        total_tail short es e',
        total_tail long es e',
        total_tail cost es e',
        length_tail es e',
        short_or_long e'.filter,
      )

  -- T1's head, its bit clear and its filter L, to T2's tail.
  pub t1_to_t2 : d.t1 ≡ e ∷ es → e.bit ≡ false → e.filter ≡ L → Accounts d k
      → Accounts (to_tail T2 (cleared e) (with_list T1 es d)) (after_move k.short k.long k.hand.cleared k)
  t1_to_t2 front clear long_is a =
      let l = d.t2 in
      let e' = cleared e in
      omega (
        arith,
        ap ∣◌∣ front,
        ap (total short) front,
        ap (total long) front,
        ap (total cost) front,
        clear_bits e clear,
        long_filter e long_is,
        total_tail short l e',
        total_tail long l e',
        total_tail bits l e',
        length_tail l e',
      )

-- The changes of q.
module _ {k : Kept} (d : Directory) where
  pub raise_keeps : Accounts d k → Accounts (raise k.short.0 d) k
  raise_keeps a =
      raise_leaves (λ d'. Accounts d' k) k.short.0 d (λ q fits. let q_fits = fits a.q_fits in omega arith)

  pub lower_keeps : Accounts d k → Accounts (lower d) k
  lower_keeps a = omega arith

-- The counts are all of T1 and T2.
pub counts_cached : {d : Directory} {k : Kept} → Accounts d k → k.short.0 + k.long.0 ≡ cached d
counts_cached {d} a = omega (arith, short_and_long d.t1, short_and_long d.t2)

-- A head of T1 that is S counts among the S pages.
pub short_counted : {d : Directory} {k : Kept} {e : Entry} {es : List Entry} → Accounts d k → d.t1 ≡ e ∷ es
    → is_long e.filter ≡ false → 1 ≤ k.short.0
short_counted {e = e} a front not-long =
    omega (arith, a.shorts, ap (total short) front, short_filter e (is-short e.filter not-long))
