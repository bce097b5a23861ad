-- How a request goes, by its tests; and a run, request by request.
-- Whatever is proved of requests goes by these cases.
use Rattle.std.specs.Prelude.{if◌then◌else◌}
use mathlib.Core.Path.{◌≡◌, refl, sym, ap, ◌∙◌, subst}
use mathlib.Core.Bool.{Bool, true, false, ◌||◌}
use mathlib.Core.List.{List, [], ◌∷◌, ◌++◌}
use Prim.Native.Nat.{ℕ}
use lib.Dec.{eqb}
use Rattle.figures.specs.Entry.{has}
use Rattle.figures.specs.Directory.{Directory, place_new, cached}
use Rattle.figures.specs.Hand.{Hand}
use Rattle.figures.specs.Policy.{Policy}
use Rattle.figures.specs.Request.{Served, still, evicted, missed, serve, request}
use Rattle.figures.specs.Run.{Tally, noted, run_from}

module _ (π : Policy) (x : ℕ) (d : Directory) where
  -- what a miss comes to, by whether the cache is full
  abbrev miss : Bool → Served
  miss full = let evicting = missed π x (π.evict d) in if full then evicting else still 1 (place_new x d)

  pub serve_hit : has x d.t1 || has x d.t2 ≡ true → serve π x d ≡ still 0 (π.hit x d)
  unfolding serve
  serve_hit h = ap (λ (b : Bool). if b then still 0 (π.hit x d) else miss (eqb (cached d) d.c)) h

  serve_miss : has x d.t1 || has x d.t2 ≡ false → serve π x d ≡ miss (eqb (cached d) d.c)
  unfolding serve
  serve_miss h = ap (λ (b : Bool). if b then still 0 (π.hit x d) else miss (eqb (cached d) d.c)) h

  pub serve_room : has x d.t1 || has x d.t2 ≡ false → eqb (cached d) d.c ≡ false
      → serve π x d ≡ still 1 (place_new x d)
  serve_room h room = serve_miss h ∙ ap miss room

  pub serve_full : has x d.t1 || has x d.t2 ≡ false → eqb (cached d) d.c ≡ true
      → serve π x d ≡ missed π x (π.evict d)
  serve_full h full = serve_miss h ∙ ap miss full

  -- What holds in each case holds of the request.
  pub serve_by_cases : (P : Served → Type 0)
      → (has x d.t1 || has x d.t2 ≡ true → P (still 0 (π.hit x d)))
      → (has x d.t1 || has x d.t2 ≡ false → eqb (cached d) d.c ≡ false → P (still 1 (place_new x d)))
      → (has x d.t1 || has x d.t2 ≡ false → eqb (cached d) d.c ≡ true → P (missed π x (π.evict d)))
      → P (serve π x d)
  serve_by_cases P by_hit by_room by_full = go (has x d.t1 || has x d.t2) (eqb (cached d) d.c) refl refl
    where
      go : (found full : Bool) → has x d.t1 || has x d.t2 ≡ found → eqb (cached d) d.c ≡ full → P (serve π x d)
      go true full e f = subst P (sym (serve_hit e)) (by_hit e)
      go false false e f = subst P (sym (serve_room e f)) (by_room e f)
      go false true e f = subst P (sym (serve_full e f)) (by_full e f)

module _ (π : Policy) (x : ℕ) (h : Hand) where
  abbrev elsewhere : Bool → Served
  elsewhere inB2 = if inB2 then evicted 4 h (π.place_b2 x h) else evicted 2 h (place_new x (π.trim h.dir))

  pub missed_b1 : has x h.dir.b1 ≡ true → missed π x h ≡ evicted 3 h (π.place_b1 x h)
  unfolding missed
  missed_b1 f = ap (λ (b : Bool). if b then evicted 3 h (π.place_b1 x h) else elsewhere (has x h.dir.b2)) f

  missed_elsewhere : has x h.dir.b1 ≡ false → missed π x h ≡ elsewhere (has x h.dir.b2)
  unfolding missed
  missed_elsewhere f = ap (λ (b : Bool). if b then evicted 3 h (π.place_b1 x h) else elsewhere (has x h.dir.b2)) f

  pub missed_b2 : has x h.dir.b1 ≡ false → has x h.dir.b2 ≡ true → missed π x h ≡ evicted 4 h (π.place_b2 x h)
  missed_b2 f g = missed_elsewhere f ∙ ap elsewhere g

  pub missed_new : has x h.dir.b1 ≡ false → has x h.dir.b2 ≡ false
      → missed π x h ≡ evicted 2 h (place_new x (π.trim h.dir))
  missed_new f g = missed_elsewhere f ∙ ap elsewhere g

  pub missed_by_cases : (P : Served → Type 0)
      → (has x h.dir.b1 ≡ true → P (evicted 3 h (π.place_b1 x h)))
      → (has x h.dir.b1 ≡ false → has x h.dir.b2 ≡ true → P (evicted 4 h (π.place_b2 x h)))
      → (has x h.dir.b1 ≡ false → has x h.dir.b2 ≡ false → P (evicted 2 h (place_new x (π.trim h.dir))))
      → P (missed π x h)
  missed_by_cases P in-B1 in-B2 new = go (has x h.dir.b1) (has x h.dir.b2) refl refl
    where
      go : (b1 b2 : Bool) → has x h.dir.b1 ≡ b1 → has x h.dir.b2 ≡ b2 → P (missed π x h)
      go true b2 e f = subst P (sym (missed_b1 e)) (in-B1 e)
      go false true e f = subst P (sym (missed_b2 e f)) (in-B2 e f)
      go false false e f = subst P (sym (missed_new e f)) (new e f)

  -- The evicted page, its list and what was counted are those of the evict part, wherever the requested page was.
  pub missed_page : (missed π x h).page ≡ h.page
  missed_page = missed_by_cases (λ s. s.page ≡ h.page) (λ e. refl) (λ e f. refl) (λ e f. refl)

  pub missed_list : (missed π x h).list ≡ h.list
  missed_list = missed_by_cases (λ s. s.list ≡ h.list) (λ e. refl) (λ e f. refl) (λ e f. refl)

  pub missed_moves : (missed π x h).moves ≡ h.moves
  missed_moves = missed_by_cases (λ s. s.moves ≡ h.moves) (λ e. refl) (λ e f. refl) (λ e f. refl)

  pub missed_cleared : (missed π x h).cleared ≡ h.cleared
  missed_cleared = missed_by_cases (λ s. s.cleared ≡ h.cleared) (λ e. refl) (λ e f. refl) (λ e f. refl)

-- The directory after a trace.
abbrev pub after : List ℕ → Directory → Directory
after [] d = d
after (x ∷ trace) d = after trace (request x d).dir

pub run_after : (t : Tally) (trace : List ℕ) (d : Directory) → (run_from t trace d).dir ≡ after trace d
unfolding run_from
run_after t [] d = refl
run_after t (x ∷ trace) d = run_after (noted (request x d) t) trace (request x d).dir

pub after_append : (a b : List ℕ) (d : Directory) → after (a ++ b) d ≡ after b (after a d)
after_append [] b d = refl
after_append (x ∷ a) b d = after_append a b (request x d).dir
