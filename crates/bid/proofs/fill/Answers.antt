-- A good line's page is written behind the others; good page lines have no line that is wrong.
use Rattle.std.proofs.Common.{◌<◌, length, ◌∙◌, arith, refl}
use lib.ListN.{length-set}
use Rattle.bid.proofs.Listing.{page_read, page_wrong, none_written, writes_on, all_written, never_wrong}
use Rattle.bid.proofs.fill.Goals as goal

pub loop-at-init : goal.loop-at-init
loop-at-init c =
    record { few = omega arith; as_long = refl; writing = none_written _ _ _ }

pub returns-in_default : goal.returns-in_default
returns-in_default c =
    let v = c.loop-at in
    never_wrong v.invariant.writing (page_wrong v.count c.loop-at-test.true c.in_default.ensures)

pub bounds-pages-count : goal.bounds-pages-count
bounds-pages-count c = omega (arith, (page_read c.loop-at.count c.in-Ok.ensures).one-of-thousand)

pub loop-at-preserved : goal.loop-at-preserved
loop-at-preserved c =
    let v = c.loop-at in
    let h = page_read v.count c.in-Ok.ensures in
    let room : v.count < length c.args.pages.now = omega (arith, h.one-of-thousand) in
    record {
      few = omega (arith, h.one-of-thousand);
      as_long = length-set v.pages v.count _ ∙ v.invariant.as_long;
      writing = writes_on v.invariant.writing room h;
    }

pub returns : goal.returns
returns c = all_written c.loop-at.invariant.writing c.loop-at-test.false
