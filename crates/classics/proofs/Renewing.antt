-- An entry of T1 turned to its tail in the words is LRU's hit.
use mathlib.Core.Path.{◌≡◌, refl, ap, ◌∙◌}
use mathlib.Core.List.{List, ◌∷◌, ◌++◌, append_assoc}
use Prim.Native.Nat.{ℕ, ◌+◌, ◌*◌, ◌<◌}
use native.Mathlib.Omega.{arith}
use lib.ListN.{get_or, length-append}
use Rattle.terms.specs.Choice.{∣◌∣}
use Rattle.figures.specs.Entry.{Entry}
use Rattle.figures.specs.Directory.{Directory, listed}
use Rattle.figures.specs.Words.{n_t1}
use Rattle.figures.specs.Classics.{renew}
use Rattle.laws.proofs.Lists.{length_renewed}
use Rattle.entries.specs.Holds.{Holds}
use Rattle.entries.specs.Leaves.{ToEnd}
use Rattle.entries.specs.Stretches.{start_of, index}
use Rattle.entries.proofs.Laid.{heads, length_of_list}
use Rattle.entries.proofs.Indexes.{Around, around}
use Rattle.entries.proofs.Moving.{moved_on, flags_at, no_length_set}

module _ {w : List ℕ} {k : ℕ} (d : Directory) (x : ℕ) (is : Holds d w) (within : k < n_t1 w)
    (here : k ≡ index x d.t1) where
  length_t1 : n_t1 w ≡ ∣ d.t1 ∣
  length_t1 = length_of_list 0 d w is (omega arith)

  found : Around x d.t1
  found = around x d.t1 (omega (arith, length_t1))

  abbrev others : List Entry
  others = d.t2 ++ (d.b1 ++ d.b2)

  from : listed d ≡ found.ahead ++ (found.it ∷ (found.behind ++ others))
  from =
      ap (λ (l : List Entry). l ++ others) found.whole
      ∙ append_assoc found.ahead (found.it ∷ found.behind) others

  to : listed (renew x d) ≡ found.ahead ++ (found.behind ++ (found.it ∷ others))
  unfolding renew
  to = rw (found.left, found.taken) (simp append_assoc)

  same_heads : heads (renew x d) ≡ heads d
  unfolding renew
  same_heads = rw (length_renewed x d.t1)

  same_size : (renew x d).c ≡ d.c
  unfolding renew
  same_size = refl

  around_it : ∣ d.t1 ∣ ≡ ∣ found.ahead ∣ + 1 + ∣ found.behind ∣
  around_it = ap ∣◌∣ found.whole ∙ length-append found.ahead (found.it ∷ found.behind) ∙ omega arith

  pub renewed_words : {L : List ℕ} {at end f : ℕ} → at ≡ 8 + 2 * k → end ≡ start_of 1 w → f ≡ get_or w (at + 1) 0
      → ToEnd at end f w L → Holds (renew x d) L
  renewed_words {L} {at} {end} starts ends keeps does =
      let a : at ≡ 8 + 2 * ∣ found.ahead ∣ = omega (arith, found.length_ahead) in
      let b : end ≡ at + 2 * ∣ found.behind ∣ + 2 = omega (arith, around_it, length_t1, found.length_ahead) in
      let it = found.it in
      let flags-same = flags_at d d found.ahead (found.behind ++ others) it it w (at + 1) 0 is (omega arith) from in
      no_length_set d (renew x d) L
      (moved_on d (renew x d) found.ahead found.behind others it it w L at end _ is same_size a b
      it.page refl (keeps ∙ flags-same) from to refl does)
      same_heads
