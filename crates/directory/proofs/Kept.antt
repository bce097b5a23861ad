-- An accepted request or run leaves a sound directory with the requested page in T1 or T2, by the promise alone.
use Rattle.std.specs.Prelude.{if◌then◌else◌}
use mathlib.Core.Path.{◌≡◌, refl, sym, ap, ◌∙◌, subst⁻¹}
use mathlib.Core.Bool.{Bool, true, false, not}
use mathlib.Core.List.{List, [], ◌∷◌, ◌++◌}
use Prim.Native.Nat.{ℕ}
use lib.Dec.{eqb}
use borrow.Author.Tests.{eqb-true}
use Rattle.terms.proofs.Choice.{by_test}
use Rattle.figures.specs.Directory.{Directory}
use Rattle.figures.specs.Words.{encode, decode}
use Rattle.figures.specs.Sound.{sound}
use Rattle.figures.specs.Request.{request}
use Rattle.figures.specs.Run.{zero_tally}
use Rattle.figures.specs.Refusals.{check_number, Answered, on_request, run_number, RunAnswered, on_run}
use Rattle.figures.specs.Demands.{Sound}
use Rattle.laws.proofs.Encoding.{decode_encode}
use Rattle.laws.proofs.Requests.{after, run_after, after_append}
use Rattle.laws.proofs.Kept.{request_keeps, run_keeps}
use Rattle.directory.specs.Demands.{SoundWith, RequestLeavesPage, RunLeavesSound, RunLeavesLastPage}
use Rattle.directory.proofs.Refused.{accepted_directory}

-- A request of a sound directory leaves such words.
request_leaves : (x : ℕ) (d : Directory) → Sound d → SoundWith x (encode (request x d).dir)
request_leaves x d s =
    let kept = request_keeps x d s in
    record { is_sound = kept.sound_again; page_cached = rw decode_encode kept.page_cached }

-- A request that is accepted has passed the check, and so has a run.
module _ (w : List ℕ) where
  request_checked : (x : ℕ) → (on_request w x).number ≡ 0 → check_number w ≡ 0
  unfolding on_request
  request_checked x =
      by_test (λ (a : Answered). a.number ≡ 0 → check_number w ≡ 0) (eqb (check_number w) 0)
      (λ is none. eqb-true (check_number w) 0 is) (λ isnt none. none)

  request_words : (x : ℕ) → check_number w ≡ 0 → (on_request w x).words ≡ encode (request x (decode w)).dir
  unfolding on_request
  request_words x none = rw none

-- By the number and the words alone, so that it is so of what C is answered too.
pub request_accepted : (w : List ℕ) (x : ℕ) {w' : List ℕ} → w' ≡ (on_request w x).words → (on_request w x).number ≡ 0
    → SoundWith x w'
request_accepted w x words accepted =
    let none = request_checked w x accepted in
    subst⁻¹ (SoundWith x) (words ∙ request_words w x none) (request_leaves x (decode w) (accepted_directory w none))

pub request_leaves_page : RequestLeavesPage
request_leaves_page w x r w' p accepted = request_accepted w x p.words_are (sym p.number_is ∙ accepted)

module _ (w trace answers : List ℕ) where
  run_accepted : (on_run w trace answers).number ≡ 0 → run_number w trace answers ≡ 0
  unfolding on_run
  run_accepted =
      by_test (λ (a : RunAnswered). a.number ≡ 0 → run_number w trace answers ≡ 0) (eqb (run_number w trace answers) 0)
      (λ is none. eqb-true (run_number w trace answers) 0 is) (λ isnt none. none)

  run_sound : run_number w trace answers ≡ 0 → Sound (decode w)
  unfolding run_number
  run_sound none = accepted_directory w (go (eqb (check_number w) 0) _ refl none)
    where
      go : (b : Bool) (m : ℕ) → eqb (check_number w) 0 ≡ b → (if not b then check_number w else m) ≡ 0 → check_number w ≡ 0
      go true m is none = eqb-true (check_number w) 0 is
      go false m isnt none = none

  run_words : run_number w trace answers ≡ 0 → (on_run w trace answers).words ≡ encode (after trace (decode w))
  unfolding on_run
  run_words none = rw (none, run_after zero_tally trace (decode w))

pub run_accepted_sound : (w trace answers : List ℕ) {w' : List ℕ} → w' ≡ (on_run w trace answers).words
    → (on_run w trace answers).number ≡ 0 → sound w' ≡ true
run_accepted_sound w trace answers words accepted =
    let none = run_accepted w trace answers accepted in
    subst⁻¹ (λ (l : List ℕ). sound l ≡ true) (words ∙ run_words w trace answers none)
    (run_keeps trace (decode w) (run_sound w trace answers none))

pub run_leaves_sound : RunLeavesSound
run_leaves_sound w trace answers r w' answers' p accepted =
    run_accepted_sound w trace answers p.words_are (sym p.number_is ∙ accepted)

pub run_accepted_last : (w trace : List ℕ) (x : ℕ) (answers : List ℕ) {w' : List ℕ}
    → w' ≡ (on_run w (trace ++ (x ∷ [])) answers).words → (on_run w (trace ++ (x ∷ [])) answers).number ≡ 0
    → SoundWith x w'
run_accepted_last w trace x answers words accepted =
    let all = trace ++ (x ∷ []) in
    let none = run_accepted w all answers accepted in
    let run = words ∙ run_words w all answers none ∙ ap encode (after_append trace (x ∷ []) (decode w)) in
    subst⁻¹ (SoundWith x) run
    (request_leaves x (after trace (decode w)) (run_keeps trace (decode w) (run_sound w all answers none)))

pub run_leaves_last_page : RunLeavesLastPage
run_leaves_last_page w trace x answers r w' answers' p accepted =
    run_accepted_last w trace x answers p.words_are (sym p.number_is ∙ accepted)
