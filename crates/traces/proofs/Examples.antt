-- The examples hold, each by computation.
use mathlib.Core.Path.{refl}
use Rattle.text.specs.Bytes.{index_of}
use Rattle.sheets.specs.Result.{decimal}
use Rattle.traces.specs.Record.{is_integer, is_timestamp, record_from, asked}
use Rattle.traces.specs.Touch.{page_count, touched, touches_over}
use Rattle.traces.specs.Trace.{counted, read_line, pages_of}
use Rattle.traces.specs.Refusals.{printed}
use Rattle.traces.specs.Examples.{Records, Units, Touches, Traces, Prints}

pub records : Records
unfolding index_of is_integer is_timestamp record_from
records = record {
  a_write = refl;
  a_read = refl;
  upper_case_read = refl;
  lower_case_write = refl;
  further_fields = refl;
  leading_zeros = refl;
  forty_digits = refl;
  four_fields = refl;
  no_bytes = refl;
  no-unit = refl;
  no_lba = refl;
  no_size = refl;
  a_sign = refl;
  a_blank = refl;
  another_letter = refl;
  two_letters = refl;
  no_letter = refl;
  no_point = refl;
  two_points = refl;
  no_fraction = refl;
  no_seconds = refl;
  a_return = refl;
}

pub units : Units
unfolding is_integer asked
units = record {
  zero = refl;
  leading_zeros = refl;
  the_last = refl;
  one_more = refl;
  forty_digits = refl;
  no_bytes = refl;
  a_sign = refl;
  a_blank = refl;
}

pub touches : Touches
unfolding index_of is_integer is_timestamp record_from page_count touched touches_over counted read_line pages_of
touches = record {
  size_0 = refl;
  size_1 = refl;
  size_4096 = refl;
  size_4097 = refl;
  two_whole_pages = refl;
  block_7 = refl;
  block_7_and_8 = refl;
  block_8 = refl;
  three_pages = refl;
  last-page = refl;
  a_page_more = refl;
  size_of_forty_digits = refl;
  no_bytes_there = refl;
  thousand_inside = refl;
  thousand_one = refl;
  the_thousandth = refl;
  one_behind = refl;
  none_behind = refl;
}

pub traces : Traces
unfolding index_of is_integer is_timestamp record_from page_count touched touches_over counted read_line pages_of
traces = record {
  nothing = refl;
  in-order = refl;
  writes_do_not_count = refl;
  other_units_do_not_count = refl;
  a_unit_with_zeros = refl;
  the_last_unit = refl;
  a_unit_does_not_wrap = refl;
  a_wrong_write = refl;
  a_wrong_line_elsewhere = refl;
  not_closed = refl;
  an_empty_line = refl;
  too_large_in_a_write = refl;
  too_large_elsewhere = refl;
  first_wrong_decides = refl;
  eleven_before_five = refl;
  time_may_fall = refl;
}

pub prints : Prints
unfolding index_of is_integer is_timestamp record_from page_count touched touches_over counted read_line pages_of printed decimal
prints = record {
  page-lines = refl;
  two_lines = refl;
}
