-- The evict part's moves of a head, which the policies share, and the repeat that they stand in.
-- The hand holds the directory of the moment and what is counted on the way.
use Rattle.std.specs.Prelude.{◌≡◌, List, ℕ, zero, suc, ◌+◌}
use Rattle.figures.specs.Entry.{Entry, demoted, bits}
use Rattle.figures.specs.Directory.{Directory, Name, T1, T2, B1, B2, with_list, to_tail}

pub record Hand : Type 0 where
  pub dir : Directory
  -- n_S and n_L, as Figure 3 keeps them
  pub n_s : ℕ
  pub n_l : ℕ
  -- hand moves so far, and the reference bits that they cleared
  pub moves : ℕ
  pub cleared : ℕ
  -- the evicted page and the list that it came from; zeros until then
  pub page : ℕ
  pub list : ℕ

abbrev pub begin : ℕ → ℕ → Directory → Hand
begin n_s n_l d = record { dir = d; n_s = n_s; n_l = n_l; moves = 0; cleared = 0; page = 0; list = 0 }

abbrev pub with_dir : Directory → Hand → Hand
with_dir d h = record {
  dir = d;
  n_s = h.n_s;
  n_l = h.n_l;
  moves = h.moves;
  cleared = h.cleared;
  page = h.page;
  list = h.list;
}

abbrev pub with_counts : ℕ → ℕ → Hand → Hand
with_counts n_s n_l h = record {
  dir = h.dir;
  n_s = n_s;
  n_l = n_l;
  moves = h.moves;
  cleared = h.cleared;
  page = h.page;
  list = h.list;
}

-- "The list word is 1 for T1, 2 for T2." No page is evicted from a history.
abbrev pub list_word : Name → ℕ
list_word T1 = 1
list_word T2 = 2
list_word B1 = 0
list_word B2 = 0

-- One hand move: e, which stood before es in list i, becomes the tail of list j as f makes it, its bit cleared.
abbrev pub turn : Name → Name → (Entry → Entry) → Entry → List Entry → Hand → Hand
turn i j f e es h = record {
  dir = to_tail j (f e) (with_list i es h.dir);
  n_s = h.n_s;
  n_l = h.n_l;
  moves = h.moves + 1;
  cleared = h.cleared + bits e;
  page = h.page;
  list = h.list;
}

-- The last one: e, which stood before es in list i, is demoted to the tail of the history j.
abbrev pub demote : Name → Name → Entry → List Entry → Hand → Hand
demote i j e es h = record {
  dir = to_tail j (demoted e) (with_list i es h.dir);
  n_s = h.n_s;
  n_l = h.n_l;
  moves = h.moves + 1;
  cleared = h.cleared;
  page = e.page;
  list = list_word i;
}

-- The last one where no history is kept: e, which stood before es in list i, is forgotten.
abbrev pub forget : Name → Entry → List Entry → Hand → Hand
forget i e es h = record {
  dir = with_list i es h.dir;
  n_s = h.n_s;
  n_l = h.n_l;
  moves = h.moves + 1;
  cleared = h.cleared;
  page = e.page;
  list = list_word i;
}

-- What a look at a head comes to: back to the choice, the published stop, or there was no head to look at.
pub data Look : Type 0 where
  again : Hand → Look
  stop : Hand → Look
  none : Look

-- The published repeat, which knows no budget: from a it ends at z. It has no rule for `none`, to which a look of CAR
-- or CLOCK comes where there is no head; a look of CART comes to a stop there.
pub data Ends (look : Hand → Look) : Hand → Hand → Type 0 where
  last : {a z : Hand} → look a ≡ stop z → Ends look a z
  next : {a b z : Hand} → look a ≡ again b → Ends look b z → Ends look a z

-- The same repeat on its way: its looks lead from a to z, each back to the choice.
pub data Leads (look : Hand → Look) : Hand → Hand → Type 0 where
  here : {a : Hand} → Leads look a a
  back : {a b z : Hand} → look a ≡ again b → Leads look b z → Leads look a z

abbrev pub onward : Look → Hand → (Hand → Hand) → Hand
onward (again b) a rest = rest b
onward (stop z) a rest = z
onward none a rest = a

-- The repeat as a function, of at most so many looks. The number never decides: Demands, "the published stop comes
-- first".
unfoldable pub repeat : (Hand → Look) → ℕ → Hand → Hand
repeat look zero a = a
repeat look (suc k) a = onward (look a) a (repeat look k)
