-- A run of a sound directory, request by request: an answer's four words, its moves, and where the run stands midway.
use mathlib.Core.Path.{◌≡◌, refl, sym, ap, ◌∙◌, subst⁻¹}
use mathlib.Core.List.{List, [], ◌∷◌, ◌++◌, append_assoc, append-nil}
use Prim.Native.Nat.{ℕ, suc, ◌+◌, ◌*◌, ◌≤◌, ◌<◌}
use native.Mathlib.Numerals.{add-one}
use native.Mathlib.Omega.{arith}
use lib.ListN.{get_or, set, take, drop, length-append, drop_of_length-le}
use lib.Seq.{drop-cons, drop-drop, drop-append-add, take_at, sets-eq}
use Rattle.terms.specs.Choice.{∣◌∣}
use Rattle.terms.proofs.ByPolicy.{by-policy}
use Rattle.figures.specs.Words.{encode, decode}
use Rattle.figures.specs.Policy.{policy_of}
use Rattle.figures.specs.Request.{Served, answer, request}
use Rattle.figures.specs.Run as Run
use Rattle.figures.specs.Run.{Ran, zero_tally, before, run_from, run}
use Rattle.figures.specs.Demands.{most_moves}
use Rattle.laws.proofs.Encoding.{decode_encode}
use Rattle.laws.proofs.Soundness.{facts_of_words}
use Rattle.laws.proofs.Moves.{request_moves_at_most}
use Rattle.entries.proofs.Laid.{header}
use Rattle.tally.specs.declared.Tally.{Tally}
use Rattle.tally.specs.Note.{defined}
use Rattle.tally.proofs.Tallies.{Within, noted_within}
use Rattle.directory.specs.Ready.{Ready, Stepped, RunThrough}
use Rattle.directory.proofs.Serving.{words_held, decoded_sound}

-- Four stores, one after another, from word at on.
pub four_stores : (l : List ℕ) (at k p n m : ℕ) → at + 4 ≤ ∣ l ∣
    → set (set (set (set l at k) (at + 1) p) (at + 2) n) (at + 3) m ≡ take at l ++ (k ∷ p ∷ n ∷ m ∷ drop (at + 4) l)
four_stores l at k p n m fits =
    let one : at + 1 ≡ suc at = omega arith in
    let two : at + 2 ≡ suc (suc at) = omega arith in
    let three : at + 3 ≡ suc (suc (suc at)) = omega arith in
    rw (one, two, three) (sets-eq (k ∷ p ∷ n ∷ m ∷ []) l at fits ∙ append_assoc (take at l) _ _)

-- No request of a sound directory takes more moves than a tally has room for.
pub moves_counted : {w : List ℕ} → Ready w → (x : ℕ) → (request x (decode w)).moves ≤ 2049
moves_counted {w} r x =
    let h = header (decode w) w (words_held r) in
    let most : most_moves (decode w) ≤ 2049 =
    by-policy (λ n. (policy_of n).most_moves (decode w).c ≤ 2049) (omega arith) (omega arith) (omega arith) (omega arith)
    (omega arith) (decode w).policy (facts_of_words w r.is_sound).known in
    omega (arith, request_moves_at_most x (decode w) (decoded_sound w r.is_sound))

-- After i requests the words are v and the buffer is `given`: the answers so far stand in front, and what is left of
-- the trace, from these words and this tally, comes to what the whole run comes to.
pub record RunMidway (w trace answers : List ℕ) (i : ℕ) (v given : List ℕ) (t : Tally) : Type 0 where
  pub inside : i ≤ ∣ trace ∣
  pub ready : Ready v
  pub within : Within i (defined t)
  pub front : List ℕ
  pub front_is : ∣ front ∣ ≡ 4 * i
  pub answers_are : given ≡ front ++ drop (4 * i) answers
  pub comes_to : before front (run_from (defined t) (drop i trace) (decode v)) ≡ run trace (decode w)

module _ (w trace answers : List ℕ) where
  pub begins : Ready w → (t : Tally) → defined t ≡ zero_tally → RunMidway w trace answers 0 w answers t
  begins r t none = record {
    inside = omega arith;
    ready = r;
    within = record {
      requests = omega (arith, ap (λ (t : Run.Tally). t.requests) none);
      hits = omega (arith, ap (λ (t : Run.Tally). t.hits) none);
      misses = omega (arith, ap (λ (t : Run.Tally). t.misses) none);
      evictions = omega (arith, ap (λ (t : Run.Tally). t.evictions) none);
      moves = omega (arith, ap (λ (t : Run.Tally). t.moves) none);
    };
    front = [];
    front_is = refl;
    answers_are = refl;
    comes_to = ap (λ (t : Run.Tally). run_from t trace (decode w)) none;
  }

  module _ {i : ℕ} {v given : List ℕ} {t : Tally} (m : RunMidway w trace answers i v given t) where
    -- One request more.
    module _ (more : i < ∣ trace ∣) {at : ℕ} (at-is : at ≡ 4 * i) {v' given' : List ℕ} {t' : Tally}
        (s : Stepped (get_or trace i 0) v given at t t' v' given') where
      abbrev served : Served
      served = request (get_or trace i 0) (decode v)

      next_within : Within (i + 1) (defined t')
      next_within =
          subst⁻¹ (Within (i + 1)) s.tally_is
          (noted_within i (defined t) served (moves_counted m.ready (get_or trace i 0)) m.within)

      next_answers : given' ≡ (m.front ++ answer served) ++ drop (4 * (i + 1)) answers
      next_answers =
          let four : 4 * (i + 1) ≡ 4 * i + 4 = omega arith in
          let kept : take (4 * i) given ≡ m.front = rw m.answers_are (take_at m.front _ (4 * i) m.front_is) in
          let later : drop (4 * i + 4) given ≡ drop (4 * i + 4) answers =
          rw (m.answers_are, ← m.front_is, drop-append-add, drop-drop) in
          s.answers_are ∙ rw (at-is, kept, later, four, append_assoc)

      next_run : before (m.front ++ answer served) (run_from (defined t') (drop (i + 1) trace) (decode v'))
          ≡ run trace (decode w)
      unfolding run_from
      next_run =
          rw (s.tally_is, ← s.shown, decode_encode, add-one i, append_assoc)
          (rw (drop-cons trace i 0 more) at m.comes_to)

      pub goes_on : RunMidway w trace answers (i + 1) v' given' t'
      goes_on = record {
        inside = omega arith;
        ready = s.ready_again;
        within = next_within;
        front = m.front ++ answer served;
        front_is = simp length-append (omega (arith, m.front_is));
        answers_are = next_answers;
        comes_to = next_run;
      }

    -- At the end of the trace.
    pub ends : ∣ trace ∣ ≤ i → RunThrough w trace answers t v given
    unfolding run_from
    ends over =
        let all : before m.front (run_from (defined t) [] (decode v)) ≡ run trace (decode w) =
        rw (drop_of_length-le trace over) at m.comes_to in
        let in_front : (run trace (decode w)).answers ≡ m.front =
        ap (λ (r : Ran). r.answers) (sym all) ∙ append-nil m.front in
        record {
          tally_is = ap (λ (r : Ran). r.tally) all;
          words_are = sym (words_held m.ready) ∙ ap (λ (r : Ran). encode r.dir) all;
          answers_are = rw (in_front, m.front_is) m.answers_are;
        }
