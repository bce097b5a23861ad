-- The page lines by the answers of one after the other: how a count, and a buffer, grow with each.
use Rattle.std.specs.Prelude.{Ok, Err}
use mathlib.Core.Path.{◌≡◌, refl, sym, ap, ◌∙◌}
use mathlib.Core.List.{List, [], ◌∷◌, ◌++◌, append_assoc, append-nil}
use Prim.Native.Nat.{ℕ, suc, ◌+◌, ◌≤◌, ◌<◌}
use native.Mathlib.Omega.{arith}
use lib.ListN.{get_or, drop, set, length-append, drop_of_length-le}
use lib.Seq.{set_at}
use Rattle.terms.specs.Choice.{∣◌∣}
use Rattle.terms.specs.Refusals.{number_of}
use Rattle.terms.specs.declared.refusals.Refusal.{Refusal}
use Rattle.sheets.specs.Lines.{Lines, lines, good}
use Rattle.sheets.specs.Bid.{Pages, listed, refused_at, number_of_line, onto, page_line, pages_from}
use Rattle.sheets.proofs.Pages.{next_page, wrong_page}
use Rattle.sheets.proofs.Lines.{not_at_end}
use Rattle.text.proofs.Text.{from_place}
use Rattle.bid.specs.Answers.{ReadsLine, PagesCounted, PagesFilled}

-- A page line that is good, and the lines from the next place on.
pub record PageRead (s : List ℕ) (at n page next : ℕ) : Type 0 where
  pub one-of-thousand : n < 1000
  pub goes-on : pages_from n (lines (drop at s))
      ≡ onto n (good page (lines (drop next s))) (pages_from (n + 1) (lines (drop next s)))
  pub further : at < next
  pub inside : next ≤ ∣ s ∣

pub page_read : {s : List ℕ} {at : ℕ} (n : ℕ) {page next : ℕ}
    → ReadsLine s at (page_line n (lines (drop at s))) (Ok (page, next)) → PageRead s at n page next
page_read {s} {at} n {page} {next} h =
    let rest = lines (drop next s) in
    let more = next_page n page rest (lines (drop at s)) (sym h.tells) in
    let one_more : suc n ≡ n + 1 = omega arith in
    record {
      one-of-thousand = more.one-of-thousand;
      goes-on = more.goes-on ∙ ap (λ (m : ℕ). onto n (good page rest) (pages_from m rest)) one_more;
      further = h.ahead.0;
      inside = h.ahead.1;
    }

-- A page line that is wrong decides.
pub page_wrong : {s : List ℕ} {at : ℕ} (n : ℕ) {refusal : Refusal} → at < ∣ s ∣
    → ReadsLine s at (page_line n (lines (drop at s))) (Err refusal)
    → pages_from n (lines (drop at s)) ≡ refused_at (number_of refusal) (number_of_line n)
page_wrong {s} {at} n {refusal} inside h =
    wrong_page n (number_of refusal) (lines (drop at s)) (not_at_end s at inside) (sym h.tells)

-- LINE AFTER LINE

-- What pages that were read already add to what page lines come to.
abbrev pub behind : List ℕ → Pages → Pages
behind before (listed pages) = listed (before ++ pages)
behind before (refused_at number line) = refused_at number line

behind_one_more : (before : List ℕ) (n page : ℕ) (rest : Lines) (ps : Pages)
    → behind before (onto n (good page rest) ps) ≡ behind (before ++ (page ∷ [])) ps
behind_one_more before n page rest (listed pages) = ap listed (sym (append_assoc before (page ∷ []) pages))
behind_one_more before n page rest (refused_at number line) = refl

-- Of the page lines from a place on, n are read, up to another place.
pub record Reading (s : List ℕ) (start at n : ℕ) : Type 0 where
  pub pages : List ℕ
  pub as_many : ∣ pages ∣ ≡ n
  pub others_follow : pages_from 0 (lines (drop start s)) ≡ behind pages (pages_from n (lines (drop at s)))

pub none_read : (s : List ℕ) (start : ℕ) → Reading s start start 0
none_read s start = record { pages = []; as_many = refl; others_follow = none_before (pages_from 0 (lines (drop start s))) }
  where
    none_before : (ps : Pages) → ps ≡ behind [] ps
    none_before (listed pages) = refl
    none_before (refused_at number line) = refl

module _ {s : List ℕ} {start at n : ℕ} (h : Reading s start at n) where
  pub one_more_read : {page next : ℕ} → PageRead s at n page next → Reading s start next (n + 1)
  one_more_read {page} {next} one = record {
    pages = h.pages ++ (page ∷ []);
    as_many = length-append h.pages (page ∷ []) ∙ omega (arith, h.as_many);
    others_follow =
        h.others_follow
        ∙ ap (behind h.pages) one.goes-on
        ∙ behind_one_more h.pages n page (lines (drop next s)) (pages_from (n + 1) (lines (drop next s)));
  }

  pub wrong_read : {number line : ℕ} → pages_from n (lines (drop at s)) ≡ refused_at number line
      → pages_from 0 (lines (drop start s)) ≡ refused_at number line
  wrong_read wrong = h.others_follow ∙ ap (behind h.pages) wrong

  pub all_read : ∣ s ∣ ≤ at → pages_from 0 (lines (drop start s)) ≡ listed h.pages
  all_read ended =
      h.others_follow
      ∙ ap (λ (rest : List ℕ). behind h.pages (pages_from n (lines rest))) (drop_of_length-le s {i = at} ended)
      ∙ ap listed (append-nil h.pages)

  pub all_counted : ∣ s ∣ ≤ at → PagesCounted (pages_from 0 (lines (drop start s))) n
  all_counted ended = record { pages = h.pages; is_listed = all_read ended; as_many = sym h.as_many }

-- THE BUFFER

pages_in : Pages → List ℕ
pages_in (listed pages) = pages
pages_in (refused_at number line) = []

listed_one : {a b : List ℕ} → listed a ≡ listed b → a ≡ b
unfolding pages_in
listed_one same = ap pages_in same

-- The pages read are written, in a buffer that held w.
pub record Writing (s : List ℕ) (start : ℕ) (w : List ℕ) (at n : ℕ) (now : List ℕ) : Type 0 where
  pub read : Reading s start at n
  pub now_is : now ≡ read.pages ++ drop n w

pub none_written : (s : List ℕ) (start : ℕ) (w : List ℕ) → Writing s start w start 0 w
unfolding none_read
none_written s start w = record { read = none_read s start; now_is = refl }

module _ {s : List ℕ} {start : ℕ} {w : List ℕ} {at n : ℕ} {now : List ℕ} (h : Writing s start w at n now) where
  pub writes_on : {page next : ℕ} → n < ∣ w ∣ → PageRead s at n page next
      → Writing s start w next (n + 1) (set now n page)
  unfolding one_more_read
  writes_on {page} {next} room one = record {
    read = one_more_read h.read one;
    now_is =
        ap (λ l. set l n page) (h.now_is ∙ ap (λ t. h.read.pages ++ t) (from_place w n room))
        ∙ set_at h.read.pages (get_or w n 0) (drop (n + 1) w) page n h.read.as_many
        ∙ sym (append_assoc h.read.pages (page ∷ []) (drop (n + 1) w));
  }

  pub all_written : ∣ s ∣ ≤ at → PagesFilled s start w now
  all_written ended pages is =
      let same : h.read.pages ≡ pages = listed_one (sym (all_read h.read ended) ∙ is) in
      let long : n ≡ ∣ h.read.pages ∣ = sym h.read.as_many in
      h.now_is ∙ ap (λ k. h.read.pages ++ drop k w) long ∙ ap (λ (l : List ℕ). l ++ drop ∣ l ∣ w) same

  pub never_wrong : {number line : ℕ} → pages_from n (lines (drop at s)) ≡ refused_at number line
      → PagesFilled s start w now
  never_wrong wrong pages is =
      let clash = sym is ∙ wrong_read h.read wrong in
      let never : ◌≡◌ {A = ℕ} 0 1 = cc in
      absurd (omega arith)
