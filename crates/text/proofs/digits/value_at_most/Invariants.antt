-- What was read before a digit, and the digits from it on, come to the value of the whole.
use Rattle.std.proofs.Common.{drop, ◌≡◌, ◌≤◌, true}
use Rattle.text.specs.Digits.{all_digits, value_after, value}
use Rattle.text.proofs.digits.value_at_most.Given as goal

abbrev pub invariant-loop-digit : goal.invariant-loop-digit
invariant-loop-digit l =
    record {
      small : l.n ≤ l.most;
      digits : all_digits (drop l.digit-index l.text) ≡ true;
      worth : value_after l.n (drop l.digit-index l.text) ≡ value l.text;
    }
