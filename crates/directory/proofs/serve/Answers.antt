-- What `find` says of T1 and T2 and whether the cache is full decide the way: a hit, a free place, or a miss.
use Rattle.std.proofs.Common.{refl}
use Rattle.figures.specs.Words.{decode}
use Rattle.directory.proofs.Serving.{words_held, place, tells_hit, tells_room, tells_full}
use Rattle.directory.proofs.serve.Goals as goal

pub returns-in-Some : goal.returns-in-Some
returns-in-Some c =
    let x = c.args.page in
    let found = c.in-Some.ensures in
    let hit = c.hit.ensures x (place c.requires x refl found) in
    rw c.still.ensures (tells_hit c.requires x refl found hit)

pub returns-then-cached-dir : goal.returns-then-cached-dir
returns-then-cached-dir c =
    let placed = c.place_new.ensures (decode c.args.dir.now) (words_held c.requires) in
    rw c.still-then-cached-dir.ensures
    (tells_room c.requires c.args.page refl c.in_default.ensures c.if-cached-dir.true placed)

pub returns : goal.returns
returns c =
    tells_full c.requires c.args.page refl c.in_default.ensures c.if-cached-dir.false c.miss.ensures
