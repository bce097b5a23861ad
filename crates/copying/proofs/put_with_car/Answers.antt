-- The key, the name and what stood behind the key are put, one after another.
use Rattle.std.proofs.Common.{rules, sym}
use Rattle.result.proofs.Putting.{put_as}
use Rattle.copying.proofs.Naming.{car_put}
use Rattle.copying.proofs.put_with_car.Goals as goal

pub returns : goal.returns
returns c =
    let name = put_as (sym c.name.ensures) c.put-2.ensures.put in
    let put = car_put c.args.sheet.now c.put.ensures.put name c.put-3.ensures.put in
    search rules
