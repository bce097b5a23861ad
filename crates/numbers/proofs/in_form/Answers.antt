-- So many bytes, all digits: then the leading zero decides.
use Rattle.std.proofs.Common.{◌≡◌, true, length, sym, arith}
use borrow.Author.Tests.{eq-eqb, ne_eqb}
use Rattle.text.specs.Digits.{all_digits}
use Rattle.sheets.proofs.Forms.{not-in-form, zero_decides}
use Rattle.numbers.proofs.in_form.Goals as goal
use Rattle.numbers.proofs.in_form.Goals.{then-n-lt1-via-then-n-lt1, then-n-lt1-via-else-n-lt1+then-most-n}
use Rattle.numbers.proofs.in_form.Goals.{then-n-lt1-via-else-n-lt1+else-most-n+then-not-all_digits}

pub returns-then-n-lt1 : goal.returns-then-n-lt1
returns-then-n-lt1 c =
    sym (not-in-form c.args.most c.args.text.now (λ form.
    elim c.then-n-lt1.branch [
      | then-n-lt1-via-then-n-lt1 w ↦ omega arith
      | then-n-lt1-via-else-n-lt1+then-most-n w ↦ omega arith
      | then-n-lt1-via-else-n-lt1+else-most-n+then-not-all_digits w ↦ cc (form.digits)
    ]))

pub returns-then-n-eq1 : goal.returns-then-n-eq1
returns-then-n-eq1 c =
    let s = c.args.text.now in
    let all : all_digits s ≡ true = cc in
    rw (zero_decides c.args.most s c.if-n-lt1.false c.if-most-n.false all, eq-eqb (length s) 1 c.if-n-eq1.true)

pub returns-else-n-eq1 : goal.returns-else-n-eq1
returns-else-n-eq1 c =
    let s = c.args.text.now in
    let all : all_digits s ≡ true = cc in
    rw (zero_decides c.args.most s c.if-n-lt1.false c.if-most-n.false all, ne_eqb (length s) 1 c.if-n-eq1.false)
