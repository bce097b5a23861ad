-- Worked examples of document 01, and some that a bidder may ask about: what each sheet or value must come to.
-- A sheet is written as its text.
use Rattle.std.specs.Prelude.{◌≡◌, List, [], ◌∷◌, ℕ}
use Prim.Native.String.{String}
use Rattle.terms.specs.Policies.{car, cart, fifo, clock, lru}
use Rattle.text.specs.Text.{bytes}
use Rattle.sheets.specs.Number.{means, wrong, whole, miss_cost}
use Rattle.sheets.specs.Lines.{lines}
use Rattle.sheets.specs.Bid.{Meaning, bid, refused, meaning, filed_meaning}
use Rattle.sheets.specs.LookUp.{between, nowhere, value_of}
use Rattle.sheets.specs.Result.{Outcome, decimal, milliseconds, result_sheet, refused_sheet}
use Rattle.sheets.specs.Copy.{copy, not_copied, copy_of, copied}

-- "So `1,250` is 1,250 thousandths, `0,000` is good; `1250`, `1.250`, `01,250` and `1,25` are refused."
pub record MissCosts : Type 0 where
  pub comma_kept : miss_cost (bytes "1,250") ≡ means 1250
  pub nothing : miss_cost (bytes "0,000") ≡ means 0
  pub most : miss_cost (bytes "9999,999") ≡ means 9999999
  pub no_comma : miss_cost (bytes "1250") ≡ wrong 9
  pub a_point : miss_cost (bytes "1.250") ≡ wrong 9
  pub leading_zero : miss_cost (bytes "01,250") ≡ wrong 9
  pub two_digits : miss_cost (bytes "1,25") ≡ wrong 9
  pub four_digits : miss_cost (bytes "1,2500") ≡ wrong 9
  pub five_before : miss_cost (bytes "10000,000") ≡ wrong 9
  pub none_before : miss_cost (bytes ",250") ≡ wrong 9
  pub two_commas : miss_cost (bytes "1,,250") ≡ wrong 9

-- "Whole numbers are 1 to 10 digits, no leading zero except 0 itself, at most 4,294,967,295."
pub record WholeNumbers : Type 0 where
  pub zero_itself : whole (bytes "0") ≡ means 0
  pub most : whole (bytes "4294967295") ≡ means 4294967295
  pub too_many : whole (bytes "4294967296") ≡ wrong 9
  pub eleven_digits : whole (bytes "10000000000") ≡ wrong 9
  pub leading_zero : whole (bytes "042") ≡ wrong 9
  pub empty : whole (bytes "") ≡ wrong 9
  pub a_return : whole (bytes "42\r") ≡ wrong 9

abbrev pub worked : String
worked =
    "policy=car\npages=2\nmisscost=1,250\npage=1\npage=2\npage=1\npage=3\npage=2\npage=1\npage=4\npage=2\n"

abbrev pub a_bid : ℕ → ℕ → ℕ → List ℕ → Meaning
a_bid policy c cost pages = bid (record { policy = policy; c = c; cost = cost; pages = pages })

abbrev pub sheet : String → Meaning
sheet s = meaning (bytes s)

pub record Sheets : Type 0 where
  pub the_worked : sheet worked ≡ a_bid car 2 1250 (1 ∷ 2 ∷ 1 ∷ 3 ∷ 2 ∷ 1 ∷ 4 ∷ 2 ∷ [])
  pub empty : sheet "" ≡ refused 8 1
  pub blank-policy : sheet "policy=\npages=1\nmisscost=0,000\n" ≡ a_bid cart 1 0 []
  pub blank_and_a_return : sheet "policy=\r\npages=1\nmisscost=0,000\n" ≡ refused 1 1
  pub cart-policy : sheet "policy=cart\npages=1024\nmisscost=0,001\npage=0\n" ≡ a_bid cart 1024 1 (0 ∷ [])
  pub fifo-policy : sheet "policy=fifo\npages=3\nmisscost=0,500\npage=7\n" ≡ a_bid fifo 3 500 (7 ∷ [])
  pub clock-policy : sheet "policy=clock\npages=3\nmisscost=0,500\npage=7\n" ≡ a_bid clock 3 500 (7 ∷ [])
  pub lru-policy : sheet "policy=lru\npages=3\nmisscost=0,500\npage=7\n" ≡ a_bid lru 3 500 (7 ∷ [])
  pub unknown_policy : sheet "policy=arc\npages=0\nmisscost=1250\n" ≡ refused 1 1
  pub a_name_cut_short : sheet "policy=cloc\npages=3\nmisscost=0,500\n" ≡ refused 1 1
  pub a_name_and_a_blank : sheet "policy=fifo \npages=3\nmisscost=0,500\n" ≡ refused 1 1
  pub key_before_value : sheet "policy:arc\npages=0\n" ≡ refused 8 1
  pub size_out_of_range : sheet "policy=car\npages=1025\nmisscost=1250\n" ≡ refused 2 2
  pub size_not_in_form : sheet "policy=car\npages=01025\nmisscost=1250\n" ≡ refused 9 2
  pub cost_not_in_form : sheet "policy=car\npages=2\nmisscost=1250\n" ≡ refused 9 3
  pub a_return_before_the_line_feed : sheet "policy=car\r\npages=2\nmisscost=1,250\n" ≡ refused 1 1
  pub no_final_line_feed : sheet "policy=car\npages=2\nmisscost=1,250\npage=1\npage=2" ≡ refused 8 5
  pub first_wrong_decides : sheet "policy=car\npages=2\nmisscost=1,250\npage=1\npage=02\nPage=3\n" ≡ refused 9 5
  pub an_empty_line : sheet "policy=car\npages=2\nmisscost=1,250\n\n" ≡ refused 8 4

-- A sheet filed before request 2 of 02, and its copy.
abbrev pub filed : String
filed = "policy=\npages=2\nmisscost=1,250\npage=1\npage=1\n"

abbrev pub filed_copy : String
filed_copy = "policy=car\npages=2\nmisscost=1,250\npage=1\npage=1\n"

pub record Copies : Type 0 where
  pub meant_car : filed_meaning (bytes filed) ≡ a_bid car 2 1250 (1 ∷ 1 ∷ [])
  pub car_written : copy_of (bytes filed) ≡ copy (bytes filed_copy)
  pub named_unchanged : copy_of (bytes "policy=cart\npages=1\nmisscost=0,000\n")
      ≡ copy (bytes "policy=cart\npages=1\nmisscost=0,000\n")
  pub wrong_further_down : copy_of (bytes "policy=\npages=2\nmisscost=1,250\npage=1\npage=x\n") ≡ not_copied 9 5
  pub blank_and_a_return : copy_of (bytes "policy=\r\npages=1\nmisscost=0,000\n") ≡ not_copied 1 1
  pub a_refusal_printed : copied (bytes "policy=\npages=2\n") ≡ refused_sheet 8 3

pub record LookUps : Type 0 where
  pub third_value : value_of 0 3 (lines (bytes worked)) ≡ between 28 33
  pub first_equals : value_of 0 1 (lines (bytes "a=b=c\n")) ≡ between 2 5
  pub empty_value : value_of 0 2 (lines (bytes "x\n=\n")) ≡ between 3 3
  pub line_zero : value_of 0 0 (lines (bytes worked)) ≡ nowhere
  pub no_equals : value_of 0 1 (lines (bytes "x\n=\n")) ≡ nowhere
  pub not_closed : value_of 0 2 (lines (bytes "a=1\nb=2")) ≡ nowhere

abbrev pub worked_outcome : Outcome
worked_outcome = record {
  policy = car;
  pages = 2;
  requests = 8;
  hits = 2;
  misses = 6;
  evictions = 4;
  steps = 6;
  wait = 7500;
}

-- The worked sheet under `clock`, worked out by hand from request 1 of 02.
abbrev pub clock_outcome : Outcome
clock_outcome = record {
  policy = clock;
  pages = 2;
  requests = 8;
  hits = 1;
  misses = 7;
  evictions = 5;
  steps = 6;
  wait = 8750;
}

-- Numbers are written with no zero in front, but that before the comma.
pub record WrittenNumbers : Type 0 where
  pub nothing : decimal 0 ≡ bytes "0"
  pub nine : decimal 9 ≡ bytes "9"
  pub ten : decimal 10 ≡ bytes "10"
  pub most : decimal 18446744073709551615 ≡ bytes "18446744073709551615"
  pub under_one : milliseconds 142 ≡ bytes "0,142"

pub record Results : Type 0 where
  pub the_worked : result_sheet worked_outcome ≡
      bytes "policy=car\npages=2\nrequests=8\nhits=2\nmisses=6\nevictions=4\nsteps=6\nwait=7,500\n"
  pub under_clock : result_sheet clock_outcome ≡
      bytes "policy=clock\npages=2\nrequests=8\nhits=1\nmisses=7\nevictions=5\nsteps=6\nwait=8,750\n"
  pub a_refusal : refused_sheet 8 1 ≡ bytes "refused=8\nline=1\n"
