-- The four operations as total functions of any words, page, trace and buffer: the answer and all lent memory then.
-- A refused call's answer is its number with zeros elsewhere, and all lent memory stays.
use Rattle.std.specs.Prelude.{not, List, ◌++◌, ℕ, ◌+◌, ◌*◌, get_or, drop, ltb, eqb, if◌then◌else◌}
use Rattle.terms.specs.Choice.{∣◌∣}
use Rattle.terms.specs.Limits.{most_pages, known_size}
use Rattle.terms.specs.Policies.{known_policy}
use Rattle.terms.specs.Refusals.{accepted, policy_not_known, size_not_known, wrong_length, not_sound}
use Rattle.terms.specs.Refusals.{too_many_pages, buffer_too_short}
use Rattle.figures.specs.Directory.{fresh}
use Rattle.figures.specs.Words.{encode, decode, size}
use Rattle.figures.specs.Sound.{exact_length, sound}
use Rattle.figures.specs.Request.{Served, request}
use Rattle.figures.specs.Run.{Tally, zero_tally, Ran, run}

-- "Fresh directory: 1, 2, 3."
unfoldable pub fresh_number : ℕ → ℕ → List ℕ → ℕ
fresh_number policy c w =
    if not (known_policy policy) then policy_not_known
    else if not (known_size c) then size_not_known
    else if not (eqb ∣ w ∣ (8 + 4 * c)) then wrong_length
    else accepted

-- "Request and soundness check: under 8 words 3, then 1, 2, length 3, then 4."
unfoldable pub check_number : List ℕ → ℕ
check_number w =
    if ltb ∣ w ∣ 8 then wrong_length
    else if not (known_policy (get_or w 0 0)) then policy_not_known
    else if not (known_size (size w)) then size_not_known
    else if not (exact_length w) then wrong_length
    else if not (sound w) then not_sound
    else accepted

-- "Run: as a request, then 5, 6."
unfoldable pub run_number : List ℕ → List ℕ → List ℕ → ℕ
run_number w trace answers =
    if not (eqb (check_number w) accepted) then check_number w
    else if ltb most_pages ∣ trace ∣ then too_many_pages
    else if ltb ∣ answers ∣ (4 * ∣ trace ∣) then buffer_too_short
    else accepted

-- A fresh directory and the soundness check answer their number alone.
pub record Numbered : Type 0 where
  pub number : ℕ
  pub words : List ℕ

unfoldable pub on_fresh : ℕ → ℕ → List ℕ → Numbered
on_fresh policy c w =
    let n = fresh_number policy c w in
    record { number = n; words = if eqb n accepted then encode (fresh policy c) else w }

unfoldable pub on_check : List ℕ → Numbered
on_check w = record { number = check_number w; words = w }

pub record Answered : Type 0 where
  pub number : ℕ
  pub kind : ℕ
  pub page : ℕ
  pub list : ℕ
  pub moves : ℕ
  pub words : List ℕ

abbrev pub refused_request : ℕ → List ℕ → Answered
refused_request n w = record { number = n; kind = 0; page = 0; list = 0; moves = 0; words = w }

abbrev pub served_request : Served → Answered
served_request s = record {
  number = accepted;
  kind = s.kind;
  page = s.page;
  list = s.list;
  moves = s.moves;
  words = encode s.dir;
}

unfoldable pub on_request : List ℕ → ℕ → Answered
on_request w x =
    let served = served_request (request x (decode w)) in
    if eqb (check_number w) accepted then served else refused_request (check_number w) w

pub record RunAnswered : Type 0 where
  pub number : ℕ
  pub tally : Tally
  pub words : List ℕ
  pub answers : List ℕ

abbrev pub refused_run : ℕ → List ℕ → List ℕ → RunAnswered
refused_run n w answers = record { number = n; tally = zero_tally; words = w; answers = answers }

-- The answers in order, and the later words of the buffer as they were.
abbrev pub served_run : Ran → List ℕ → RunAnswered
served_run r answers = record {
  number = accepted;
  tally = r.tally;
  words = encode r.dir;
  answers = r.answers ++ drop ∣ r.answers ∣ answers;
}

unfoldable pub on_run : List ℕ → List ℕ → List ℕ → RunAnswered
on_run w trace answers =
    let n = run_number w trace answers in
    let served = served_run (run trace (decode w)) answers in
    if eqb n accepted then served else refused_run n w answers
