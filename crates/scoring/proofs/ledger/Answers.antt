-- Too little memory is refused; where it is enough, the sheet decides.
use Rattle.scoring.proofs.Lending.{lent, short_answers, sheet_answers}
use Rattle.scoring.proofs.ledger.Goals as goal

pub returns-then-not-lends_enough : goal.returns-then-not-lends_enough
returns-then-not-lends_enough c = search short_answers

pub ledger_sheet-requires : goal.ledger_sheet-requires
ledger_sheet-requires c = lent 256256 c.lends_enough.ensures c.if-not-lends_enough.false

pub returns : goal.returns
returns c = search sheet_answers
