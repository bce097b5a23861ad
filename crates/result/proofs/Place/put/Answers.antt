-- The text stands at the place, and what is around it stays.
use Rattle.std.proofs.Common.{rules, refl}
use Rattle.std.proofs.lemmas.Slice.{overwrites}
use Rattle.result.proofs.Place.put.Goals as goal

pub returns : goal.returns
returns c = record {
  same_bytes = refl;
  put = record {
    next_is = refl;
    front_is = search (rules, overwrites);
    rest_stays = search (rules, overwrites);
    as_long = search (rules, overwrites);
  };
}
