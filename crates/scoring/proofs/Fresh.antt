-- A run from a fresh directory is accepted, whatever its trace, where all that is lent has room.
use Rattle.std.specs.Prelude.{Result, Ok}
use Rattle.std.specs.Result.{IsOk}
use mathlib.Core.Path.{◌≡◌, sym, ap, ◌∙◌}
use mathlib.Core.Bool.{true}
use mathlib.Core.List.{List}
use Prim.Native.Nat.{ℕ, ◌+◌, ◌*◌}
use native.Mathlib.Omega.{arith}
use borrow.Author.Tests.{le-ltb, eq-eqb}
use Rattle.terms.specs.Choice.{∣◌∣}
use Rattle.terms.specs.Limits.{known_size}
use Rattle.terms.proofs.Tests.{reads}
use Rattle.terms.proofs.Numbers.{accepted_is_ok}
use Rattle.terms.specs.declared.refusals.Refusal.{Refusal}
use Rattle.figures.specs.Directory.{Directory, fresh}
use Rattle.figures.specs.Words.{encode}
use Rattle.figures.specs.Refusals as Refusals
use Rattle.figures.specs.Refusals.{fresh_number, check_number, run_number, on_fresh, on_check, on_run, served_run}
use Rattle.figures.specs.Run.{run}
use Rattle.laws.proofs.Encoding.{decode_encode, words_fit}
use Rattle.laws.proofs.Kept.{fresh_is_sound}
use Rattle.tally.specs.declared.Tally.{Tally}
use Rattle.directory.specs.Promises.{tally_in, Freshened, Replayed}
use Rattle.directory.proofs.Refused.{check_sound}
use Rattle.scoring.specs.Ready.{Fitting, RanFresh}

module _ {policy c : ℕ} {w trace answers : List ℕ} (h : Fitting policy c w trace answers) where
  abbrev d : Directory
  d = fresh policy c

  size-known : known_size c ≡ true
  size-known = simp reads h.size-known

  pub fresh_accepted : (on_fresh policy c w).words ≡ encode (fresh policy c)
  unfolding on_fresh fresh_number
  fresh_accepted = rw (h.policy-known, size-known, eq-eqb ∣ w ∣ (8 + 4 * c) h.exact)

  sound_words : check_number (encode d) ≡ 0
  unfolding on_check
  sound_words =
      let exact = words_fit d (omega arith) in
      let is_sound = fresh_is_sound policy c h.policy-known size-known in
      sym (check_sound (encode d) (omega (arith, exact)) h.policy-known size-known exact is_sound).number_is

  pub run_accepted : on_run (encode (fresh policy c)) trace answers ≡ served_run (run trace (fresh policy c)) answers
  unfolding on_run run_number
  run_accepted =
      let few = le-ltb 1000 ∣ trace ∣ h.few in
      let room = le-ltb ∣ answers ∣ (4 * ∣ trace ∣) h.room in
      rw (sound_words, few, room, decode_encode)

  pub freshened : {r : Result Unit Refusal} {w' : List ℕ} → Freshened policy c w r w' → IsOk r
  unfolding on_fresh fresh_number
  freshened {r} made =
      accepted_is_ok r (rw (h.policy-known, size-known, eq-eqb ∣ w ∣ (8 + 4 * c) h.exact) at made.number_is)

  module _ {f : Result Unit Refusal} {w' w'' answers' : List ℕ} {r : Result Tally Refusal}
      (made : Freshened policy c w f w') (run-through : Replayed w' trace answers r w'' answers') where
    its_run : on_run w' trace answers ≡ served_run (run trace (fresh policy c)) answers
    its_run = ap (λ v. on_run v trace answers) (made.words_are ∙ fresh_accepted) ∙ run_accepted

    pub ran : IsOk r
    ran = accepted_is_ok r (run-through.number_is ∙ ap (λ (x : Refusals.RunAnswered). x.number) its_run)

    pub ran_fresh : {t : Tally} → r ≡ Ok t → RanFresh policy c trace answers t w'' answers'
    ran_fresh is =
        record {
          tally_is =
              ap tally_in (sym is) ∙ (run-through.tally_is ∙ ap (λ (x : Refusals.RunAnswered). x.tally) its_run);
          words_are = run-through.words_are ∙ ap (λ (x : Refusals.RunAnswered). x.words) its_run;
          answers_are = run-through.answers_are ∙ ap (λ (x : Refusals.RunAnswered). x.answers) its_run;
        }
