use Rattle.std.proofs.Common.{◌∙◌}
use Rattle.pol_set_changes.proofs.Surplus.{kept-ascends, kept-surplus}
use Rattle.pol_set_changes.proofs.net.surplus.Goals as goal

pub from_ascending-requires : goal.from_ascending-requires
from_ascending-requires c = record {
  ascending = kept-ascends c.args.ids.now c.args.others.now c.in_ok-more.more.items c.dedup.new.self.items c.requires.ids_sorted c.in_ok-more.ensures c.dedup.ensures.filtered;
}

pub returns : goal.returns
returns c =
    c.from_ascending.ensures
    ∙ kept-surplus c.args.ids.now c.args.others.now c.in_ok-more.more.items c.dedup.new.self.items c.requires.ids_sorted c.in_ok-more.ensures c.dedup.ensures.filtered
