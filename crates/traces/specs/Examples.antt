-- Traces that a member may ask about, worked out by hand: what each comes to for a unit.
-- A trace is written as its text.
use Rattle.std.specs.Prelude.{◌≡◌, [], ◌∷◌, ℕ}
use Prim.Native.String.{String}
use Rattle.text.specs.Text.{bytes}
use Rattle.sheets.specs.Result.{refused_sheet}
use Rattle.traces.specs.Record.{read, write, not_in_form, record_of, unit, no_unit, asked}
use Rattle.traces.specs.Touch.{page_count}
use Rattle.traces.specs.Trace.{Pages, taken, refused_at, yields, wrong, counted, pages_of}
use Rattle.traces.specs.Refusals.{printed}

-- THE FORM OF A LINE

pub record Records : Type 0 where
  -- the two records of the council's page
  pub a_write : record_of (bytes "0,20941264,8192,W,0.551706,Alpha/NT") ≡ write 0 20941264 8192
  pub a_read : record_of (bytes "1,3435888,16384,r,1.609859,") ≡ read 1 3435888 16384
  pub upper_case_read : record_of (bytes "1,2,3,R,0.0") ≡ read 1 2 3
  pub lower_case_write : record_of (bytes "1,2,3,w,0.0") ≡ write 1 2 3
  pub further_fields : record_of (bytes "1,2,3,r,0.0,,x y,\r") ≡ read 1 2 3
  pub leading_zeros : record_of (bytes "01,002,0003,r,00.00") ≡ read 1 2 3
  pub forty_digits : record_of (bytes "1,1000000000000000000000000000000000000000,3,r,0.0")
      ≡ read 1 1000000000000000000000000000000000000000 3
  pub four_fields : record_of (bytes "1,2,3,r") ≡ not_in_form
  pub no_bytes : record_of (bytes "") ≡ not_in_form
  pub no-unit : record_of (bytes ",2,3,r,0.0") ≡ not_in_form
  pub no_lba : record_of (bytes "1,,3,r,0.0") ≡ not_in_form
  pub no_size : record_of (bytes "1,2,,r,0.0") ≡ not_in_form
  pub a_sign : record_of (bytes "1,+2,3,r,0.0") ≡ not_in_form
  pub a_blank : record_of (bytes "1,2, 3,r,0.0") ≡ not_in_form
  pub another_letter : record_of (bytes "1,2,3,x,0.0") ≡ not_in_form
  pub two_letters : record_of (bytes "1,2,3,rw,0.0") ≡ not_in_form
  pub no_letter : record_of (bytes "1,2,3,,0.0") ≡ not_in_form
  pub no_point : record_of (bytes "1,2,3,r,0") ≡ not_in_form
  pub two_points : record_of (bytes "1,2,3,r,0.0.0") ≡ not_in_form
  pub no_fraction : record_of (bytes "1,2,3,r,0.") ≡ not_in_form
  pub no_seconds : record_of (bytes "1,2,3,r,.5") ≡ not_in_form
  pub a_return : record_of (bytes "1,2,3,r,0.0\r") ≡ not_in_form

pub record Units : Type 0 where
  pub zero : asked (bytes "0") ≡ unit 0
  pub leading_zeros : asked (bytes "007") ≡ unit 7
  pub the_last : asked (bytes "4294967295") ≡ unit 4294967295
  pub one_more : asked (bytes "4294967296") ≡ no_unit
  pub forty_digits : asked (bytes "1000000000000000000000000000000000000000") ≡ no_unit
  pub no_bytes : asked (bytes "") ≡ no_unit
  pub a_sign : asked (bytes "-1") ≡ no_unit
  pub a_blank : asked (bytes " 1") ≡ no_unit

-- THE PAGES OF A RECORD

abbrev trace : ℕ → String → Pages
trace number s = pages_of number (bytes s)

pub record Touches : Type 0 where
  pub size_0 : trace 1 "1,8,0,r,0.0\n" ≡ taken []
  pub size_1 : trace 1 "1,8,1,r,0.0\n" ≡ taken (1 ∷ [])
  pub size_4096 : trace 1 "1,8,4096,r,0.0\n" ≡ taken (1 ∷ [])
  pub size_4097 : trace 1 "1,8,4097,r,0.0\n" ≡ taken (1 ∷ 2 ∷ [])
  pub two_whole_pages : trace 1 "1,8,8192,r,0.0\n" ≡ taken (1 ∷ 2 ∷ [])
  pub block_7 : trace 1 "1,7,512,r,0.0\n" ≡ taken (0 ∷ [])
  pub block_7_and_8 : trace 1 "1,7,513,r,0.0\n" ≡ taken (0 ∷ 1 ∷ [])
  pub block_8 : trace 1 "1,8,512,r,0.0\n" ≡ taken (1 ∷ [])
  pub three_pages : trace 1 "1,15,4609,r,0.0\n" ≡ taken (1 ∷ 2 ∷ 3 ∷ [])
  pub last-page : trace 1 "1,34359738367,512,r,0.0\n" ≡ taken (4294967295 ∷ [])
  pub a_page_more : trace 1 "1,34359738367,513,r,0.0\n" ≡ refused_at 11 1
  pub size_of_forty_digits : trace 1 "1,0,1000000000000000000000000000000000000000,r,0.0\n" ≡ refused_at 11 1
  pub no_bytes_there : trace 1 "1,1000000000000000000000000000000000000000,0,r,0.0\n" ≡ taken []
  -- a thousand pages and one more, of one record and behind another
  pub thousand_inside : page_count 8 4096000 ≡ 1000
  pub thousand_one : trace 1 "1,8,4096001,r,0.0\n" ≡ refused_at 5 1
  pub the_thousandth : counted 999 8 4096 ≡ yields (1 ∷ [])
  pub one_behind : counted 1000 8 1 ≡ wrong 5
  pub none_behind : counted 1000 8 0 ≡ yields []

-- THE LINES OF A TRACE

pub record Traces : Type 0 where
  pub nothing : trace 1 "" ≡ taken []
  pub in-order : trace 1 "1,8,1,r,0.0\n1,0,4097,R,0.5,\n1,8,1,r,0.5,x\n" ≡ taken (1 ∷ 0 ∷ 1 ∷ 1 ∷ [])
  pub writes_do_not_count : trace 1 "1,8,1,w,0.0\n1,16,1,W,0.0\n1,24,1,r,0.0\n" ≡ taken (3 ∷ [])
  pub other_units_do_not_count : trace 1 "0,8,1,r,0.0\n1,16,1,r,0.0\n10,24,1,r,0.0\n" ≡ taken (2 ∷ [])
  pub a_unit_with_zeros : trace 1 "001,8,1,r,0.0\n" ≡ taken (1 ∷ [])
  pub the_last_unit : trace 4294967295 "4294967295,8,1,r,0.0\n0,16,1,r,0.0\n" ≡ taken (1 ∷ [])
  pub a_unit_does_not_wrap : trace 0 "4294967296,8,1,r,0.0\n" ≡ taken []
  pub a_wrong_write : trace 1 "1,8,1,r,0.0\n1,8,1,w,0\n" ≡ refused_at 10 2
  pub a_wrong_line_elsewhere : trace 1 "0,8,x,r,0.0\n1,8,1,r,0.0\n" ≡ refused_at 10 1
  pub not_closed : trace 1 "1,8,1,r,0.0\n1,8,1,r,0.0" ≡ refused_at 10 2
  pub an_empty_line : trace 1 "1,8,1,r,0.0\n\n" ≡ refused_at 10 2
  pub too_large_in_a_write : trace 1 "1,34359738368,1,w,0.0\n" ≡ taken []
  pub too_large_elsewhere : trace 1 "0,34359738368,1,r,0.0\n" ≡ taken []
  pub first_wrong_decides : trace 1 "1,34359738368,1,r,0.0\nx\n" ≡ refused_at 11 1
  pub eleven_before_five : trace 1 "1,0,17592186044417,r,0.0\n" ≡ refused_at 11 1
  pub time_may_fall : trace 1 "1,8,1,r,2.0\n1,8,1,r,1.0\n" ≡ taken (1 ∷ 1 ∷ [])

pub record Prints : Type 0 where
  pub page-lines : printed 1 (bytes "1,0,4097,r,0.0\n1,80,1,r,0.1\n") ≡ bytes "page=0\npage=1\npage=10\n"
  pub two_lines : printed 1 (bytes "1,0,4097,r,0.0\n1,80,1,r\n") ≡ refused_sheet 10 2
