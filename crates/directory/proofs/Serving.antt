-- One request of a sound directory in the words: what each way through `serve` comes to.
use Rattle.std.specs.Prelude.{Some, None}
use mathlib.Core.Path.{◌≡◌, refl, sym, ap, ◌∙◌, subst, subst⁻¹}
use mathlib.Core.Bool.{true, false, ◌||◌}
use mathlib.Core.List.{List, ◌++◌}
use Prim.Native.Nat.{ℕ, ◌+◌, ◌≤◌, ◌<◌}
use native.Mathlib.Omega.{arith}
use lib.ListN.{length-append}
use borrow.Author.Tests.{eq-eqb, ne_eqb}
use Rattle.terms.specs.Choice.{∣◌∣}
use Rattle.figures.specs.Entry.{has}
use Rattle.figures.specs.Directory.{Directory, place_new, cached}
use Rattle.figures.specs.Words.{encode, decode, size, n_t1, n_t2}
use Rattle.figures.specs.Policy.{policy_of}
use Rattle.figures.specs.Sound.{sound}
use Rattle.figures.specs.Request.{Served, still, request}
use Rattle.figures.specs.Demands.{Sound}
use Rattle.laws.proofs.Encoding.{encode_decode, words_fit}
use Rattle.laws.proofs.Soundness.{facts_of_words}
use Rattle.laws.proofs.Requests.{serve_hit, serve_room, serve_full}
use Rattle.laws.proofs.Kept.{request_keeps}
use Rattle.engine.specs.declared.Served.{Served as Answered}
use Rattle.engine.specs.declared.kinds.Kind.{Kind}
use Rattle.engine.specs.Shown.{number_of, Tells}
use Rattle.entries.specs.Holds.{Holds}
use Rattle.entries.specs.Stretches.{index}
use Rattle.entries.specs.Leaves.{FoundAt}
use Rattle.entries.proofs.Laid.{Header, header}
use Rattle.entries.proofs.Reading.{told, cache_held}
use Rattle.entries.proofs.Indexes.{has_append}
use Rattle.directory.specs.Ready.{still_of, evicting, Ready}

pub ready : (w : List ℕ) → sound w ≡ true → Ready w
ready w is_sound =
    let d = decode w in
    let is = encode_decode w is_sound in
    let s = (facts_of_words w is_sound).shared in
    let h = header d w is in
    let n = words_fit d (omega (arith, s.cache_fits, s.history_fits)) in
    let m = ap (λ (l : List ℕ). ∣ l ∣) is in
    record {
      is_sound = is_sound;
      length_is = omega arith;
      bounds = omega (arith, s.bounds);
      cache_fits = omega (arith, s.cache_fits);
      history_fits = omega (arith, s.history_fits);
    }

-- What sound words hold is a sound directory.
pub decoded_sound : (w : List ℕ) → sound w ≡ true → Sound (decode w)
decoded_sound w is_sound = subst⁻¹ (λ (l : List ℕ). sound l ≡ true) (encode_decode w is_sound) is_sound

module _ {w : List ℕ} (r : Ready w) where
  abbrev d : Directory
  d = decode w

  pub words_held : encode d ≡ w
  words_held = encode_decode w r.is_sound

  held : Header d w
  held = header d w words_held

  -- a request leaves it sound
  pub ready_again : (x : ℕ) (w' : List ℕ) → Holds (request x d).dir w' → Ready w'
  ready_again x w' is =
      let kept = request_keeps x d (decoded_sound w r.is_sound) in
      ready w' (subst (λ (l : List ℕ). sound l ≡ true) is kept.sound_again)

  -- by what the request comes to
  module _ (x : ℕ) where
    -- The answer tells the request, and the words may be asked again.
    abbrev TellsRequest : Answered → List ℕ → Type 0
    TellsRequest a w' = Tells Holds (request x d) a w' × Ready w'

    tells_as : {s : Served} {a : Answered} {w' : List ℕ} → request x d ≡ s → Tells Holds s a w' → TellsRequest a w'
    tells_as {a = a} {w' = w'} e told =
        let all = subst⁻¹ (λ (s : Served). Tells Holds s a w') e told in (all, ready_again x w' all.shown)

    still_told : (kind : Kind) (d' : Directory) {w' : List ℕ} → Holds d' w'
        → Tells Holds (still (number_of kind) d') (still_of kind) w'
    still_told kind d' is =
        record { kind_is = refl; page_is = refl; list_is = refl; moves_is = refl; cleared_is = refl; shown = is }

    -- what `find` says of T1 and T2
    module _ {n : ℕ} (all : n ≡ n_t1 w + n_t2 w) where
      length_cache : ∣ d.t1 ++ d.t2 ∣ ≡ n
      length_cache = length-append d.t1 d.t2 ∙ omega (arith, held)

      -- the page is there,
      module _ {k : ℕ} (found : FoundAt w 8 n x (Some k)) where
        there : (has x (d.t1 ++ d.t2) ≡ true) × (k ≡ index x (d.t1 ++ d.t2))
        there = told (cache_held d w words_held) found.1 refl length_cache

        pub place : k ≡ index x (d.t1 ++ d.t2)
        place = there.1

        pub tells_hit : {w' : List ℕ} → Holds ((policy_of d.policy).hit x d) w' → TellsRequest (still_of Kind.Hit) w'
        tells_hit is =
            let cached = sym (has_append x d.t1 d.t2) ∙ there.0 in
            tells_as (serve_hit (policy_of d.policy) x d cached) (still_told Kind.Hit _ is)

      -- or nowhere
      module _ (none : FoundAt w 8 n x None) where
        missed_cache : has x d.t1 || has x d.t2 ≡ false
        missed_cache = sym (has_append x d.t1 d.t2) ∙ told (cache_held d w words_held) none refl length_cache

        pub tells_room : {w' : List ℕ} → n < size w → Holds (place_new x d) w' → TellsRequest (still_of Kind.WithRoom) w'
        tells_room free is =
            let room = ne_eqb (cached d) d.c (λ e. omega (arith, held)) in
            tells_as (serve_room (policy_of d.policy) x d missed_cache room)
            (still_told Kind.WithRoom (place_new x d) is)

        pub tells_full : size w ≤ n → {a : Answered} {w' : List ℕ} → Tells Holds (evicting x d) a w' → TellsRequest a w'
        tells_full full told =
            let is-full = eq-eqb (cached d) d.c (omega (arith, held, r.cache_fits)) in
            tells_as (serve_full (policy_of d.policy) x d missed_cache is-full) told
