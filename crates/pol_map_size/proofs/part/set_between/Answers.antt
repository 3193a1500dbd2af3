use Rattle.std.proofs.Common.{refl}
use Rattle.pol_map_size.proofs.Rows.{ascends_between}
use Rattle.pol_map_size.proofs.part.set_between.Goals as goal

pub from_ascending-requires : goal.from_ascending-requires
from_ascending-requires c = record {
  ascending = ascends_between c.args.from c.args.end c.args.set.now c.args.set.now c.in_ok-ids.ids.items c.in_ok-ids.ensures.set refl c.in_ok-ids.ensures.numbers;
}
