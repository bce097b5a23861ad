-- The policy whose number word 0 has: its hit and its miss, from what the functions of each policy make of the words.
-- FIFO, CLOCK and LRU have T1 alone, and one function is the miss of all three.
use Rattle.std.specs.Prelude.{Result, Ok, Err}
use Rattle.std.specs.Result.{IsOk}
use mathlib.Core.Path.{◌≡◌, refl, sym, ap, ◌∙◌, subst, subst⁻¹}
use mathlib.Core.Bool.{true, true≢false}
use mathlib.Core.Logic.{◌⊎◌, inl, inr}
use mathlib.Core.List.{List, ◌++◌, append-nil}
use Prim.Native.Nat.{ℕ, ◌+◌}
use native.Mathlib.Omega.{arith}
use lib.ListN.{get_or}
use Rattle.terms.specs.declared.policies.Policy.{Policy}
use Rattle.terms.specs.declared.refusals.Refusal.{Refusal}
use Rattle.terms.specs.Policies.{fifo, clock, lru, number_of, ReadAsPolicy}
use Rattle.figures.specs.Entry.{Entry}
use Rattle.figures.specs.Directory.{Directory, hit}
use Rattle.figures.specs.Words.{decode, size, n_t1, n_t2}
use Rattle.figures.specs.Classics as Classics
use Rattle.figures.specs.Policy.{clock_policy, policy_of}
use Rattle.figures.specs.Request.{Served, missed}
use Rattle.laws.proofs.Lists.{empty}
use Rattle.laws.proofs.Facts.{AloneFacts, ClearFacts, Facts, own_by}
use Rattle.laws.proofs.Soundness.{facts_of_words, alone_iff, clear_iff}
use Rattle.laws.proofs.Classics.{no_bits, clear_clock_evicts}
use Rattle.engine.specs.declared.Served.{Served as Answered}
use Rattle.engine.specs.Shown.{Tells}
use Rattle.entries.specs.Holds.{Holds}
use Rattle.entries.specs.Stretches.{index}
use Rattle.entries.proofs.Laid.{Header, header}
use Rattle.classics.specs.Queues.{FullQueue, Renewed}
use Rattle.directory.specs.Ready.{evicting, Ready}
use Rattle.directory.proofs.Serving.{words_held}

-- Sound words name a policy.
pub names_one : {w : List ℕ} → Ready w → (found : Result Policy Refusal) → ReadAsPolicy (get_or w 0 0) found
    → IsOk found
unfolding decode
names_one {w} r (Ok policy) says = refl
names_one {w} r (Err refusal) says =
    absurd (true≢false (sym (facts_of_words w r.is_sound).known ∙ says.1))

module _ {w : List ℕ} (r : Ready w) where
  abbrev d : Directory
  d = decode w

  held : Header d w
  held = header d w (words_held r)

  -- The policy that they name, which the code has read.
  module _ {policy : Policy} (numbered : number_of policy ≡ get_or w 0 0) where
    named : (p : Policy) → policy ≡ p → number_of p ≡ d.policy
    named p is = sym (ap number_of is) ∙ numbered ∙ held.policy

    -- A miss of that policy.
    pub evicts_as : (p : Policy) → policy ≡ p → (x : ℕ) {a : Answered} {w' : List ℕ}
        → Tells Holds (missed (policy_of (number_of p)) x ((policy_of (number_of p)).evict d)) a w'
        → Tells Holds (evicting x d) a w'
    evicts_as p is x {a} {w'} told =
        subst (λ (n : ℕ). Tells Holds (missed (policy_of n) x ((policy_of n).evict d)) a w') (named p is) told

    -- FIFO, CLOCK and LRU
    module _ (one : (policy ≡ Policy.Fifo) ⊎ ((policy ≡ Policy.Clock) ⊎ (policy ≡ Policy.Lru))) where
      by_classic : (P : ℕ → Type 0) → (ClearFacts d → P fifo) → (AloneFacts d → P clock) → (ClearFacts d → P lru)
          → P d.policy
      by_classic P of_fifo of_clock of_lru = go one
        where
          facts : Facts d
          facts = facts_of_words w r.is_sound

          go : (policy ≡ Policy.Fifo) ⊎ ((policy ≡ Policy.Clock) ⊎ (policy ≡ Policy.Lru)) → P d.policy
          go (inl is) =
              let number = named Policy.Fifo is in subst P number (of_fifo ((clear_iff d).0 (own_by facts (sym number))))
          go (inr (inl is)) =
              let number = named Policy.Clock is in
              subst P number (of_clock ((alone_iff d).0 (own_by facts (sym number))))
          go (inr (inr is)) =
              let number = named Policy.Lru is in subst P number (of_lru ((clear_iff d).0 (own_by facts (sym number))))

      alone : AloneFacts d
      alone = by_classic (λ n. AloneFacts d) (λ own. own.alone) (λ own. own) (λ own. own.alone)

      pub full_queue : n_t1 w + n_t2 w ≡ size w → FullQueue w
      full_queue full = record {
        is_sound = r.is_sound;
        is_alone = subst (λ (l : List ℕ). Classics.alone_sound l ≡ true) (words_held r) ((alone_iff d).1 alone);
        is-full = full;
      }

      -- one evict part for the three
      pub forgets_as : (x : ℕ) {a : Answered} {w' : List ℕ}
          → Tells Holds (missed clock_policy x (Classics.clock_evict d)) a w' → Tells Holds (evicting x d) a w'
      unfolding missed
      forgets_as x {a} {w'} told =
          let same : ClearFacts d → Classics.clock_evict d ≡ Classics.evict d =
          λ own. clear_clock_evicts d (no_bits d own) in
          let comes_to : evicting x d ≡ missed clock_policy x (Classics.clock_evict d) =
          by_classic (λ n. missed (policy_of n) x ((policy_of n).evict d) ≡ missed clock_policy x (Classics.clock_evict d))
          (λ own. rw (same own)) (λ own. refl) (λ own. rw (same own)) in
          subst⁻¹ (λ (s : Served). Tells Holds s a w') comes_to told

      -- T1 is all of the cache
      pub none_in_t2 : n_t2 w ≡ 0
      none_in_t2 = omega (arith, alone, held)

      pub place_in_t1 : (x : ℕ) {k : ℕ} → k ≡ index x (d.t1 ++ d.t2) → k ≡ index x d.t1
      place_in_t1 x here =
          here ∙ ap (λ (l : List Entry). index x (d.t1 ++ l)) (empty d.t2 (omega (arith, alone)))
          ∙ ap (index x) (append-nil d.t1)

    -- A hit of that policy.
    module _ (x : ℕ) where
      pub hit_as : (p : Policy) → policy ≡ p → {w' : List ℕ} → Holds ((policy_of (number_of p)).hit x d) w'
          → Holds ((policy_of d.policy).hit x d) w'
      hit_as p is {w'} shown = subst (λ (n : ℕ). Holds ((policy_of n).hit x d) w') (named p is) shown

      pub hit_ignored : policy ≡ Policy.Fifo → Holds ((policy_of d.policy).hit x d) w
      unfolding Classics.ignore
      hit_ignored is = hit_as Policy.Fifo is (words_held r)

      pub hit_renewed : {k : ℕ} {w' : List ℕ} → policy ≡ Policy.Lru → k ≡ index x (d.t1 ++ d.t2) → Renewed k w w'
          → Holds ((policy_of d.policy).hit x d) w'
      hit_renewed is here renewed =
          hit_as Policy.Lru is (renewed d x (words_held r) (place_in_t1 (inr (inr is)) x here))

      pub hit_marked : {w' : List ℕ} → (policy ≡ Policy.Car) ⊎ ((policy ≡ Policy.Cart) ⊎ (policy ≡ Policy.Clock))
          → Holds (hit x d) w' → Holds ((policy_of d.policy).hit x d) w'
      hit_marked (inl is) shown = hit_as Policy.Car is shown
      hit_marked (inr (inl is)) shown = hit_as Policy.Cart is shown
      hit_marked (inr (inr is)) shown = hit_as Policy.Clock is shown
