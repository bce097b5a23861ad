-- The worked examples hold, each by computation.
use mathlib.Core.Path.{refl}
use Rattle.text.specs.Bytes.{index_of}
use Rattle.sheets.specs.Number.{whole, miss_cost, digits_form}
use Rattle.sheets.specs.Bid.{policy_line, size_line, cost_line, page_line, in_order, meaning_where}
use Rattle.sheets.specs.Result.{decimal, milliseconds, result_sheet, refused_sheet}
use Rattle.sheets.specs.Copy.{copy_of, copied}
use Rattle.sheets.specs.Examples.{MissCosts, WholeNumbers, Sheets, Copies, LookUps, WrittenNumbers, Results}

pub miss_costs : MissCosts
unfolding digits_form miss_cost index_of
miss_costs = record {
  comma_kept = refl;
  nothing = refl;
  most = refl;
  no_comma = refl;
  a_point = refl;
  leading_zero = refl;
  two_digits = refl;
  four_digits = refl;
  five_before = refl;
  none_before = refl;
  two_commas = refl;
}

pub whole_numbers : WholeNumbers
unfolding digits_form whole
whole_numbers = record {
  zero_itself = refl;
  most = refl;
  too_many = refl;
  eleven_digits = refl;
  leading_zero = refl;
  empty = refl;
  a_return = refl;
}

pub sheets : Sheets
unfolding digits_form whole miss_cost policy_line size_line cost_line page_line in_order meaning_where index_of
sheets = record {
  the_worked = refl;
  empty = refl;
  blank-policy = refl;
  blank_and_a_return = refl;
  cart-policy = refl;
  fifo-policy = refl;
  clock-policy = refl;
  lru-policy = refl;
  unknown_policy = refl;
  a_name_cut_short = refl;
  a_name_and_a_blank = refl;
  key_before_value = refl;
  size_out_of_range = refl;
  size_not_in_form = refl;
  cost_not_in_form = refl;
  a_return_before_the_line_feed = refl;
  no_final_line_feed = refl;
  first_wrong_decides = refl;
  an_empty_line = refl;
}

pub copies : Copies
unfolding digits_form whole miss_cost policy_line size_line cost_line page_line in_order meaning_where index_of copy_of copied
copies = record {
  meant_car = refl;
  car_written = refl;
  named_unchanged = refl;
  wrong_further_down = refl;
  blank_and_a_return = refl;
  a_refusal_printed = refl;
}

pub looked_up : LookUps
unfolding index_of
looked_up = record {
  third_value = refl;
  first_equals = refl;
  empty_value = refl;
  line_zero = refl;
  no_equals = refl;
  not_closed = refl;
}

pub written_numbers : WrittenNumbers
unfolding decimal milliseconds
written_numbers = record { nothing = refl; nine = refl; ten = refl; most = refl; under_one = refl }

pub results : Results
unfolding decimal milliseconds result_sheet refused_sheet
results = record { the_worked = refl; under_clock = refl; a_refusal = refl }
