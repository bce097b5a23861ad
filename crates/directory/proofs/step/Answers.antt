-- `serve` tells the request's answer, which is written and counted, with no more moves than a tally has room for.
use Rattle.std.proofs.Common.{ap, ◌∙◌, arith}
use Rattle.figures.specs.Words.{decode}
use Rattle.figures.specs.Request.{request}
use Rattle.tally.specs.Note.{defined}
use Rattle.tally.proofs.Tallies.{noted_defined}
use Rattle.directory.proofs.Replaying.{moves_counted}
use Rattle.directory.proofs.step.Goals as goal

pub counted-requires : goal.counted-requires
counted-requires c =
    let told = c.serve-served.ensures.0 in
    (c.requires.answer_fits.1, omega (arith, told.moves_is, moves_counted c.requires.ready c.args.page))

pub returns : goal.returns
returns c =
    let told = c.serve-served.ensures.0 in
    let served = request c.args.page (decode c.args.dir.now) in
    record {
      tally_is = ap defined c.counted.ensures
          ∙ noted_defined c.args.t served (c.from.ensures ∙ told.kind_is) told.moves_is;
      shown = told.shown;
      answers_are = cc (c.put_answer.ensures, told.kind_is, told.page_is, told.list_is, told.moves_is);
      ready_again = c.serve-served.ensures.1;
    }
