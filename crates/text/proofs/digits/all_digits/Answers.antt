-- All bytes pass the library's test for a digit.
use Rattle.std.proofs.Common.{rules}
use Rattle.std.specs.Prelude.{IsTrue, ◌↔◌}
use Rattle.std.specs.Char.{is_ascii_digit}
use Rattle.std.specs.List.{AllPass}
use Rattle.text.proofs.Worth.{all_pass}
use Rattle.text.proofs.digits.all_digits.Goals as goal

pub returns : goal.returns
returns c =
    let each : IsTrue c.all.result ↔ AllPass is_ascii_digit c.args.text.now = search rules in all_pass _ _ each
