-- What is proved of each policy's row, in one record, over which all that is promised of requests and runs is proved
-- once. The records of the rows are in Lawful.
use mathlib.Core.Path.{◌≡◌}
use mathlib.Core.Bool.{true}
use mathlib.Core.Logic.{◌↔◌}
use Prim.Native.Nat.{ℕ, ◌+◌, ◌≤◌, ◌<◌}
use Rattle.figures.specs.Entry.{has}
use Rattle.figures.specs.Directory.{Directory, fresh, place_new, cached, remembered, in_cache}
use Rattle.figures.specs.Words.{encode}
use Rattle.figures.specs.Hand.{Hand}
use Rattle.figures.specs.Policy.{Policy}
use Rattle.figures.specs.Demands.{Evicts}
use Rattle.laws.proofs.Lists.{is}
use Rattle.laws.proofs.Facts.{Shared, Opened, Trimmed, Left}
use Rattle.laws.proofs.Placing.{Open}

-- What a policy's functions keep of its own rules, and that a page that is hit or comes back is cached.
pub record Keeps (π : Policy) (Own : Directory → Type 0) : Type 0 where
  pub opens : (d : Directory) → Shared d → Own d → cached d ≡ d.c → Opened d (π.evict d).dir
  pub opened : (d : Directory) → Shared d → Own d → cached d ≡ d.c → Own (π.evict d).dir
  pub trims : (d : Directory) → cached d + 1 ≡ d.c → remembered d ≤ d.c + 1 → Own d → Trimmed d (π.trim d)
  pub places_new : (x : ℕ) (d : Directory) → cached d + 1 ≡ d.c → Own d → Own (place_new x (π.trim d))
  pub has_room : (x : ℕ) (d : Directory) → Own d → cached d < d.c → remembered d ≡ 0 → Own (place_new x d)
  pub hits : (x : ℕ) (d : Directory) → Shared d → Own d → 1 ≤ in_cache (is x) d → Left Own x d (π.hit x d)
  pub back_b1 : (x : ℕ) (h : Hand) → Open x h.dir → Own h.dir → has x h.dir.b1 ≡ true
      → Left Own x h.dir (π.place_b1 x h)
  pub back_b2 : (x : ℕ) (h : Hand) → Open x h.dir → Own h.dir → has x h.dir.b2 ≡ true
      → Left Own x h.dir (π.place_b2 x h)

-- What a request adds to what is owed: the evict part pays for its moves but one, and with that one no part adds more
-- than a request's share.
pub record Pays (π : Policy) (Own : Directory → Type 0) : Type 0 where
  pub evicts : (d : Directory) → Shared d → Own d → cached d ≡ d.c
      → (π.evict d).moves + π.owed (π.evict d).dir ≤ 1 + π.owed d
  pub trims : (d : Directory) → π.owed (π.trim d) ≡ π.owed d
  pub hits : (x : ℕ) (d : Directory) → π.owed (π.hit x d) ≤ π.owed d + π.moves_each
  pub new : (x : ℕ) (d : Directory) → π.owed (place_new x d) + 1 ≤ π.owed d + π.moves_each
  pub back_b1 : (x : ℕ) (h : Hand) → π.owed (π.place_b1 x h) + 1 ≤ π.owed h.dir + π.moves_each
  pub back_b2 : (x : ℕ) (h : Hand) → π.owed (π.place_b2 x h) + 1 ≤ π.owed h.dir + π.moves_each
  pub fresh_owes : (n c : ℕ) → π.owed (fresh n c) ≡ 0

pub record Lawful (π : Policy) : Type 1 where
  -- what the policy's own test says of a directory's value
  pub Own : Directory → Type 0
  pub own_iff : (d : Directory) → (π.own_sound (encode d) ≡ true) ↔ Own d
  pub fresh_owns : (n c : ℕ) → Own (fresh n c)
  pub evicts : (d : Directory) → Shared d → Own d → cached d ≡ d.c → Evicts d (π.evict d)
  pub moves_at_most : (d : Directory) → Shared d → Own d → cached d ≡ d.c → (π.evict d).moves ≤ π.most_moves d.c
  pub keeps : Keeps π Own
  pub pays : Pays π Own
