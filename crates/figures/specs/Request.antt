-- One request, written once over a policy: hit; or miss, with evict and trim where the cache is full; then place.
-- Lines 1 to 21 of both figures.
use Rattle.std.specs.Prelude.{◌||◌, List, [], ◌∷◌, ℕ, eqb, if◌then◌else◌}
use Rattle.figures.specs.Entry.{has}
use Rattle.figures.specs.Directory.{Directory, place_new, cached}
use Rattle.figures.specs.Hand.{Hand}
use Rattle.figures.specs.Policy.{Policy, policy_of}

-- The answer's four words, the reference bits that the hand cleared, and the directory afterwards.
pub record Served : Type 0 where
  pub kind : ℕ
  pub page : ℕ
  pub list : ℕ
  pub moves : ℕ
  pub cleared : ℕ
  pub dir : Directory

abbrev pub answer : Served → List ℕ
answer s = s.kind ∷ s.page ∷ s.list ∷ s.moves ∷ []

-- "For kinds 0 and 1 the other three are 0."
abbrev pub still : ℕ → Directory → Served
still kind d = record { kind = kind; page = 0; list = 0; moves = 0; cleared = 0; dir = d }

abbrev pub evicted : ℕ → Hand → Directory → Served
evicted kind h d =
    record { kind = kind; page = h.page; list = h.list; moves = h.moves; cleared = h.cleared; dir = d }

-- A miss in a full cache, after evict: trim is for a page in neither history.
unfoldable pub missed : Policy → ℕ → Hand → Served
missed π x h =
    if has x h.dir.b1 then evicted 3 h (π.place_b1 x h)
    else if has x h.dir.b2 then evicted 4 h (π.place_b2 x h)
    else evicted 2 h (place_new x (π.trim h.dir))

-- While there is room both histories are empty, so that a miss is a new page.
unfoldable pub serve : Policy → ℕ → Directory → Served
serve π x d =
    let full = missed π x (π.evict d) in
    if has x d.t1 || has x d.t2 then still 0 (π.hit x d)
    else if eqb (cached d) d.c then full
    else still 1 (place_new x d)

abbrev pub request : ℕ → Directory → Served
request x d = serve (policy_of d.policy) x d
