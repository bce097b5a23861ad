-- The refusal numbers of document 01's table and of 02's requests, by what each says; 0 is that of an accepted call.
-- When a call is refused, and with what, is said where its outcome is defined.
use Rattle.std.specs.Prelude.{ℕ, Result, Ok, Err}
use Rattle.terms.specs.declared.refusals.Refusal.{Refusal}

abbrev pub accepted : ℕ
accepted = 0

abbrev pub policy_not_known : ℕ
policy_not_known = 1

abbrev pub size_not_known : ℕ
size_not_known = 2

abbrev pub wrong_length : ℕ
wrong_length = 3

abbrev pub not_sound : ℕ
not_sound = 4

abbrev pub too_many_pages : ℕ
too_many_pages = 5

abbrev pub buffer_too_short : ℕ
buffer_too_short = 6

abbrev pub sheet_too_long : ℕ
sheet_too_long = 7

abbrev pub no_such_line : ℕ
no_such_line = 8

abbrev pub not_in_form : ℕ
not_in_form = 9

-- "10 for a line not in the council's form, 11 for a counted record that touches a page over 4,294,967,295" (request 3)
abbrev pub no_record : ℕ
no_record = 10

abbrev pub page_too_large : ℕ
page_too_large = 11

-- The number of the code's refusal.
abbrev pub number_of : Refusal → ℕ
number_of Refusal.PolicyNotKnown = policy_not_known
number_of Refusal.SizeNotKnown = size_not_known
number_of Refusal.WrongLength = wrong_length
number_of Refusal.NotSound = not_sound
number_of Refusal.TooManyPages = too_many_pages
number_of Refusal.BufferTooShort = buffer_too_short
number_of Refusal.SheetTooLong = sheet_too_long
number_of Refusal.NoSuchLine = no_such_line
number_of Refusal.NotInForm = not_in_form
number_of Refusal.NoRecord = no_record
number_of Refusal.PageTooLarge = page_too_large

-- The number beside an answer: 0 where the call is accepted.
abbrev pub number_in : {A : Type 0} → Result A Refusal → ℕ
number_in (Ok answer) = accepted
number_in (Err refusal) = number_of refusal
