-- Every request leaves a sound directory in which the requested page is in T1 or T2: said once, over what a policy's
-- functions keep, and then of every row.
use mathlib.Core.Path.{◌≡◌, refl, sym, ap, ◌∙◌, subst}
use mathlib.Core.Bool.{true, false, ◌||◌}
use mathlib.Core.List.{List, [], ◌∷◌}
use Prim.Native.Nat.{ℕ, ◌≤◌, ◌<◌}
use native.Mathlib.Omega.{arith}
use lib.Dec.{eqb}
use borrow.Author.Tests.{eqb-true, eqb-false}
use Rattle.terms.specs.Policies.{known_policy}
use Rattle.terms.proofs.Tests.{reads}
use Rattle.figures.specs.Entry.{new_short, has}
use Rattle.figures.specs.Directory.{Directory, fresh, place_new, cached, in_cache}
use Rattle.figures.specs.Words.{encode}
use Rattle.figures.specs.Hand.{Hand}
use Rattle.figures.specs.Policy.{Policy, policy_of}
use Rattle.figures.specs.Request.{missed, serve, request}
use Rattle.figures.specs.Demands.{Sound, row_of, RequestKeeps, FreshIsSound}
use Rattle.laws.proofs.Lists.{is, is_itself}
use Rattle.laws.proofs.Facts.{Shared, Opened, Trimmed, Left}
use Rattle.laws.proofs.Soundness.{facts, facts_sound}
use Rattle.laws.proofs.Requests.{serve_by_cases, missed_by_cases, after}
use Rattle.laws.proofs.Placing.{Roomy, Open, counted_cached, found_counted, missed_uncounted}
use Rattle.laws.proofs.Placing.{new_cached, new_keeps, opened_open, trimmed_roomy, room_roomy}
use Rattle.laws.proofs.Laws.{Keeps, Lawful}
use Rattle.laws.proofs.Lawful.{lawful}

module _ (π : Policy) (Own : Directory → Type 0) (keeps : Keeps π Own) (x : ℕ) (d : Directory) (shared : Shared d)
    (own : Own d) where
  new_counted : (d' : Directory) → 1 ≤ in_cache (is x) (place_new x d')
  new_counted d' = omega (arith, new_cached x d' x, is_itself x (new_short x) refl)

  left_by_hit : has x d.t1 || has x d.t2 ≡ true → Left Own x d (π.hit x d)
  left_by_hit found = keeps.hits x d shared own (found_counted x d found)

  -- A new page, whether there was room or trim made the histories fit.
  left_by_new : (d' : Directory) → Roomy x d' → Own (place_new x d') → d'.policy ≡ d.policy → d'.c ≡ d.c
      → Left Own x d (place_new x d')
  unfolding place_new
  left_by_new d' roomy own' policy c =
      record { shared = new_keeps x d' roomy; own = own'; is_cached = new_counted d'; same_policy = policy; same_c = c }

  left_by_room : has x d.t1 || has x d.t2 ≡ false → eqb (cached d) d.c ≡ false → Left Own x d (place_new x d)
  left_by_room not_found not_full =
      let differs = eqb-false (cached d) d.c not_full in
      let room : cached d < d.c = omega (arith, shared.cache_fits) in
      left_by_new d (room_roomy x d shared room (missed_uncounted x d not_found))
      (keeps.has_room x d own room (shared.room_no_history room)) refl refl

  -- A page that comes back is judged from the directory that the evict part left.
  from_opened : (d' d'' : Directory) → Opened d d' → Left Own x d' d'' → Left Own x d d''
  from_opened d' d'' o l = record {
    shared = l.shared;
    own = l.own;
    is_cached = l.is_cached;
    same_policy = l.same_policy ∙ o.same_policy;
    same_c = l.same_c ∙ o.same_c;
  }

  left_by_evicting : has x d.t1 || has x d.t2 ≡ false → cached d ≡ d.c
      → Left Own x d (missed π x (π.evict d)).dir
  left_by_evicting not_found full =
      missed_by_cases π x h (λ s. Left Own x d s.dir)
      (λ in-b1. from_opened h.dir _ o (keeps.back_b1 x h open_h own_h in-b1))
      (λ not-b1 in-b2. from_opened h.dir _ o (keeps.back_b2 x h open_h own_h in-b2))
      (λ not-b1 not-b2.
      left_by_new (π.trim h.dir) (trimmed_roomy x h.dir _ open_h not-b1 not-b2 t)
      (keeps.places_new x h.dir open_h.room own_h) (t.same_policy ∙ o.same_policy) (t.same_c ∙ o.same_c))
    where
      h : Hand
      h = π.evict d

      o : Opened d h.dir
      o = keeps.opens d shared own full

      open_h : Open x h.dir
      open_h = opened_open x d h.dir shared full (missed_uncounted x d not_found) o

      own_h : Own h.dir
      own_h = keeps.opened d shared own full

      t : Trimmed h.dir (π.trim h.dir)
      t = keeps.trims h.dir open_h.room open_h.history_most own_h

  pub request_leaves : Left Own x d (serve π x d).dir
  request_leaves =
      serve_by_cases π x d (λ s. Left Own x d s.dir) left_by_hit left_by_room
      (λ not_found full. left_by_evicting not_found (eqb-true (cached d) d.c full))

-- The laws of the row that a sound directory names, and what that row's test says of it.
pub laws : (d : Directory) → Sound d → Lawful (row_of d)
laws d s = lawful d.policy (facts d s).known

pub owns : (d : Directory) (s : Sound d) → (laws d s).Own d
owns d s = ((laws d s).own_iff d).0 (facts d s).own

pub request_keeps : RequestKeeps
request_keeps x d s =
    let f = facts d s in
    let law = laws d s in
    let l = request_leaves (row_of d) law.Own law.keeps x d f.shared (owns d s) in
    let d' = (request x d).dir in
    record {
      sound_again =
          facts_sound d'
          (record {
            known = ap known_policy l.same_policy ∙ f.known;
            shared = l.shared;
            own =
                subst (λ (n : ℕ). (policy_of n).own_sound (encode d') ≡ true) (sym l.same_policy)
                ((law.own_iff d').1 l.own);
          });
      page_cached = counted_cached x d' l.is_cached;
      same_policy = l.same_policy;
      same_size = l.same_c;
    }

pub fresh_is_sound : FreshIsSound
fresh_is_sound policy c known size =
    let range = simp reads at size in
    let law = lawful policy known in
    facts_sound (fresh policy c)
    (record {
      known = known;
      shared = record {
        bounds = omega arith;
        cache_fits = omega arith;
        history_fits = omega arith;
        room_no_history = λ room. refl;
        pages_differ = λ x. omega arith;
        history_clear = refl;
      };
      own = (law.own_iff (fresh policy c)).1 (law.fresh_owns policy c);
    })

-- So does a run, request by request.
pub run_keeps : (trace : List ℕ) (d : Directory) → Sound d → Sound (after trace d)
run_keeps [] d s = s
run_keeps (x ∷ trace) d s = run_keeps trace (request x d).dir (request_keeps x d s).sound_again

pub run_same_policy : (trace : List ℕ) (d : Directory) → Sound d → (after trace d).policy ≡ d.policy
run_same_policy [] d s = refl
run_same_policy (x ∷ trace) d s =
    let k = request_keeps x d s in
    run_same_policy trace (request x d).dir k.sound_again ∙ k.same_policy

pub run_same_size : (trace : List ℕ) (d : Directory) → Sound d → (after trace d).c ≡ d.c
run_same_size [] d s = refl
run_same_size (x ∷ trace) d s =
    let k = request_keeps x d s in
    run_same_size trace (request x d).dir k.sound_again ∙ k.same_size
