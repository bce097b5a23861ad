-- What an engine's answers and its lent memory w say of a hand and of a served request. How memory shows a directory is
-- a parameter: the list engine's words are those of the directory, another engine has its own picture of it.
use Rattle.std.specs.Prelude.{◌≡◌, ℕ, ◌+◌}
use Rattle.figures.specs.Directory.{Directory}
use Rattle.figures.specs.Hand as Hand
use Rattle.figures.specs.Hand.{Look, Ends}
use Rattle.figures.specs.Policy.{Policy}
use Rattle.figures.specs.Request as Request
use Rattle.figures.specs.Request.{missed}
use Rattle.engine.specs.declared.Hand.{Hand as Counted}
use Rattle.engine.specs.declared.Evicted.{Evicted}
use Rattle.engine.specs.declared.Served.{Served}
use Rattle.engine.specs.declared.kinds.Kind.{Kind}

-- The number of the code's kind.
abbrev pub number_of : Kind → ℕ
number_of Kind.Hit = 0
number_of Kind.WithRoom = 1
number_of Kind.New = 2
number_of Kind.FromB1 = 3
number_of Kind.FromB2 = 4

-- What is counted is what hand h has counted.
pub record Counts (h : Hand.Hand) (k : Counted) : Type 0 where
  pub moves_is : k.moves ≡ h.moves
  pub cleared_is : k.cleared ≡ h.cleared

-- What is counted after a move that cleared no bit, and after a turn, which cleared one.
abbrev pub moved_once : Counted → Counted
moved_once k = record { moves = k.moves + 1; cleared = k.cleared }

abbrev pub turned_once : Counted → Counted
turned_once k = record { moves = k.moves + 1; cleared = k.cleared + 1 }

-- The answer of a miss of this kind, after what the evict part answered.
abbrev pub served_of : Kind → Evicted → Served
served_of kind out =
    record { kind = kind; page = out.page; list = out.list; moves = out.hand.moves; cleared = out.hand.cleared }

-- The published repeat from hand h ends, at a hand of which Q holds.
pub record EndsWhere (look : Hand.Hand → Look) (h : Hand.Hand) (Q : Hand.Hand → Type 0) : Type 0 where
  pub at : Hand.Hand
  pub ends : Ends look h at
  pub holds : Q at

module _ {W : Type 0} (Shows : Directory → W → Type 0) where
  -- Memory that shows a directory shows what f makes of it then.
  abbrev pub Makes : (Directory → Directory) → W → W → Type 0
  Makes f w w' = (d : Directory) → Shows d w → Shows (f d) w'

  -- The evicted page, its list and the hand are those of hand z, and the memory shows its directory.
  pub record EvictedAs (z : Hand.Hand) (r : Evicted) (w : W) : Type 0 where
    pub page_is : r.page ≡ z.page
    pub list_is : r.list ≡ z.list
    pub counts : Counts z r.hand
    pub shown : Shows z.dir w

  -- The kind is that of a miss after the evict part, which ended at hand h, and the memory shows its directory.
  pub record PlacedAs (π : Policy) (page : ℕ) (h : Hand.Hand) (kind : Kind) (w : W) : Type 0 where
    pub kind_is : number_of kind ≡ (missed π page h).kind
    pub shown : Shows (missed π page h).dir w

  -- The answer is that of the served request, and the memory shows its directory.
  pub record Tells (s : Request.Served) (r : Served) (w : W) : Type 0 where
    pub kind_is : number_of r.kind ≡ s.kind
    pub page_is : r.page ≡ s.page
    pub list_is : r.list ≡ s.list
    pub moves_is : r.moves ≡ s.moves
    pub cleared_is : r.cleared ≡ s.cleared
    pub shown : Shows s.dir w
