-- What a sheet means: a bid with its policy, c, cost, count of pages and every page in their ranges, or a refusal with
-- a number. Each part is a fact about the line that gives it: what is read there is in range, or a refusal's number.
use mathlib.Core.Path.{◌≡◌, refl, subst}
use mathlib.Core.Bool.{true, or-true}
use mathlib.Core.List.{List, [], ◌∷◌}
use Prim.Native.Nat.{ℕ, suc, ◌+◌, ◌≤◌, ◌<◌}
use native.Mathlib.Omega.{arith}
use lib.ListN.{drop}
use lib.Dec.{ltb}
use borrow.Author.Tests.{ltb-true, ltb-false, eq-eqb}
use Rattle.terms.specs.Choice.{∣◌∣, all_at_most, same}
use Rattle.terms.specs.Limits.{known_size}
use Rattle.terms.specs.Policies.{Named, policies, has_number, known_policy}
use Rattle.terms.proofs.Choice.{by_test, either}
use Rattle.terms.proofs.Tests.{reads}
use Rattle.text.specs.Text.{bytes, starts}
use Rattle.sheets.specs.Number.{Value, means, wrong, whole_form, whole, cost_form, miss_cost}
use Rattle.sheets.specs.Lines.{Lines, end, unclosed, line, lines, Reading, good, bad, before, under}
use Rattle.sheets.specs.Bid.{Bid, Meaning, bid, refused, PolicyValue, named_in, policy_value, policy_meant, in_range}
use Rattle.sheets.specs.Bid.{policy_line, size_line, cost_line, page_meant, page_line, Pages, listed, refused_at, onto, pages_from}
use Rattle.sheets.specs.Bid.{with_pages, after_line, in_order, meaning_where}
use Rattle.sheets.specs.Demands.{InRange, BidsInRange, RefusalsHaveNumbers}
use Rattle.sheets.proofs.Forms.{is_cost, cost_below}

-- WHAT IS READ HAS A PROPERTY, AND A REFUSAL A NUMBER

abbrev Refusal : ℕ → Type 0
Refusal number = 1 ≤ number

abbrev OfValue : (ℕ → Type 0) → Value → Type 0
OfValue Q (means n) = Q n
OfValue Q (wrong number) = Refusal number

abbrev OfReading : (ℕ → Type 0) → Reading → Type 0
OfReading Q (good n rest) = Q n
OfReading Q (bad number) = Refusal number

abbrev OfPages : (List ℕ → Type 0) → Pages → Type 0
OfPages Q (listed pages) = Q pages
OfPages Q (refused_at number at) = Refusal number

abbrev OfMeaning : (Bid → Type 0) → Meaning → Type 0
OfMeaning Q (bid b) = Q b
OfMeaning Q (refused number at) = Refusal number

of_before : (Q : ℕ → Type 0) (v : Value) (rest : Lines) → OfValue Q v → OfReading Q (before v rest)
of_before Q (means n) rest h = h
of_before Q (wrong number) rest h = h

of_under : (Q : ℕ → Type 0) (key : List ℕ) (meant : List ℕ → Value) → ((s : List ℕ) → OfValue Q (meant s))
    → (ls : Lines) → OfReading Q (under key meant ls)
of_under Q key meant h end = omega arith
of_under Q key meant h unclosed = omega arith
of_under Q key meant h (line l rest) =
    let s = drop ∣ key ∣ l in
    either (OfReading Q) (starts key l) (of_before Q (meant s) rest (h s)) (omega arith)

of_after : (P : Bid → Type 0) (Q : ℕ → Type 0) (n : ℕ) (r : Reading) (follows : ℕ → Lines → Meaning) → OfReading Q r
    → ((value : ℕ) (rest : Lines) → Q value → OfMeaning P (follows value rest)) → OfMeaning P (after_line n r follows)
of_after P Q n (good value rest) follows h then = then value rest h
of_after P Q n (bad number) follows h then = h

-- WHOLE NUMBERS

abbrev ThirtyTwoBits : ℕ → Type 0
ThirtyTwoBits n = n ≤ 4294967295

whole_at_most : (s : List ℕ) → OfValue ThirtyTwoBits (whole s)
unfolding whole
whole_at_most s =
    by_test (OfValue ThirtyTwoBits) (whole_form s) (λ h. let said = simp reads at h in omega arith) (λ h. omega arith)

-- THE FIRST THREE LINES

abbrev Known : ℕ → Type 0
Known policy = known_policy policy ≡ true

module _ (blank : ℕ) (blank-known : Known blank) where
  abbrev Names : PolicyValue → Type 0
  Names v = OfValue Known (policy_meant (means blank) v)

  -- A name of the list stands for a known policy, where the list has no number that is not known.
  listed_named : (l : List Named) → ((n : ℕ) → has_number n l ≡ true → Known n) → (s : List ℕ) → Names (named_in l s)
  listed_named [] known s = omega arith
  listed_named (p ∷ l) known s =
      let first = known p.number (rw (eq-eqb p.number p.number refl)) in
      either Names (same s (bytes p.name)) first (listed_named l (λ n listed. known n (rw (listed, or-true))) s)

  policy_named : (s : List ℕ) → Names (policy_value s)
  policy_named s = either Names (same s (bytes "")) blank-known (listed_named policies (λ n known. known) s)

  policy-known : (ls : Lines) → OfReading Known (policy_line (means blank) ls)
  unfolding policy_line
  policy-known ls = of_under Known (bytes "policy=") (λ s. policy_meant (means blank) (policy_value s)) policy_named ls

abbrev Size : ℕ → Type 0
Size c = (1 ≤ c) × (c ≤ 1024)

size-known : (ls : Lines) → OfReading Size (size_line ls)
unfolding size_line
size-known ls = of_under Size (bytes "pages=") (λ s. in_range (whole s)) (λ s. go (whole s) (whole_at_most s)) ls
  where
    go : (v : Value) → OfValue ThirtyTwoBits v → OfValue Size (in_range v)
    go (means c) h = by_test (OfValue Size) (known_size c) (λ is. simp reads at is) (λ not. omega arith)
    go (wrong number) h = h

abbrev Cost : ℕ → Type 0
Cost cost = cost ≤ 9999999

cost_at_most : (ls : Lines) → OfReading Cost (cost_line ls)
unfolding cost_line miss_cost
cost_at_most ls = of_under Cost (bytes "misscost=") miss_cost small ls
  where
    small : (s : List ℕ) → OfValue Cost (miss_cost s)
    small s =
        by_test (OfValue Cost) (cost_form s) (λ h. omega (arith, cost_below s (is_cost s h))) (λ h. omega arith)

-- THE PAGE LINES

-- What n page lines before it allow of a page.
abbrev Allowed : ℕ → ℕ → Type 0
Allowed n page = (n < 1000) × ThirtyTwoBits page

page_allowed : (n : ℕ) (ls : Lines) → OfReading (Allowed n) (page_line n ls)
unfolding page_line
page_allowed n ls = of_under (Allowed n) (bytes "page=") (page_meant n) (λ s.
    by_test (OfValue (Allowed n)) (ltb n 1000) (λ h. both (ltb-true n 1000 h) (whole s) (whole_at_most s))
    (λ h. omega arith)) ls
  where
    both : n < 1000 → (v : Value) → OfValue ThirtyTwoBits v → OfValue (Allowed n) v
    both h (means page) small = (h, small)
    both h (wrong number) small = small

abbrev PagesFit : ℕ → List ℕ → Type 0
PagesFit n pages = (n + ∣ pages ∣ ≤ 1000) × (all_at_most 4294967295 pages ≡ true)

of_onto : (n : ℕ) (r : Reading) (after : Pages) → OfReading (Allowed n) r
    → (n < 1000 → OfPages (PagesFit (suc n)) after) → OfPages (PagesFit n) (onto n r after)
of_onto n (good page rest) (listed pages) h room =
    let i = room h.0 in (omega arith, simp reads (h.1, i.1))
of_onto n (good page rest) (refused_at number at) h room = room h.0
of_onto n (bad number) after h room = h

pages_at_most : (n : ℕ) (ls : Lines) → n ≤ 1000 → OfPages (PagesFit n) (pages_from n ls)
pages_at_most n end h = (omega arith, refl)
pages_at_most n unclosed h =
    of_onto n (page_line n unclosed) (listed []) (page_allowed n unclosed) (λ below. (omega arith, refl))
pages_at_most n (line l rest) h =
    of_onto n (page_line n (line l rest)) (pages_from (suc n) rest) (page_allowed n (line l rest)) (λ below.
    pages_at_most (suc n) rest below)

-- THE SHEET

module _ (policy c cost : ℕ) (p : Known policy) (q : Size c) (r : Cost cost) where
  of_pages : (ps : Pages) → OfPages (PagesFit 0) ps → OfMeaning InRange (with_pages policy c cost ps)
  of_pages (listed pages) h = record {
    policy-known = p;
    size-known = q;
    cost_at_most = r;
    pages_at_most = omega arith;
    each_page_at_most = h.1;
  }
  of_pages (refused_at number at) h = h

module _ (blank : ℕ) (blank-known : Known blank) where
  lines_in_range : (ls : Lines) → OfMeaning InRange (in_order (means blank) ls)
  unfolding in_order
  lines_in_range ls =
      of_after InRange Known 1 (policy_line (means blank) ls) _ (policy-known blank blank-known ls) (λ policy ls₂ p.
      of_after InRange Size 2 (size_line ls₂) _ (size-known ls₂) (λ c ls₃ q.
      of_after InRange Cost 3 (cost_line ls₃) _ (cost_at_most ls₃) (λ cost ls₄ r.
      of_pages policy c cost p q r (pages_from 0 ls₄) (pages_at_most 0 ls₄ (omega arith)))))

  of_sheet : (s : List ℕ) → OfMeaning InRange (meaning_where (means blank) s)
  unfolding meaning_where
  of_sheet s = either (OfMeaning InRange) (ltb 16000 ∣ s ∣) (omega arith) (lines_in_range (lines s))

pub bids_in_range : BidsInRange
bids_in_range blank known s b is = subst (OfMeaning InRange) is (of_sheet blank known s)

pub refusal_has_number : RefusalsHaveNumbers
refusal_has_number blank known s number at is = subst (OfMeaning InRange) is (of_sheet blank known s)

-- "at most 16,000 bytes": a sheet that is longer is no bid.
pub bid_is_short : (blankIs : Value) (s : List ℕ) (b : Bid) → meaning_where blankIs s ≡ bid b → ∣ s ∣ ≤ 16000
unfolding meaning_where
bid_is_short blankIs s b =
    by_test (λ m. m ≡ bid b → ∣ s ∣ ≤ 16000) (ltb 16000 ∣ s ∣)
    (λ long never. let no : ◌≡◌ {A = ℕ} 0 1 = cc in absurd (omega arith)) (λ short is. ltb-false 16000 ∣ s ∣ short)
