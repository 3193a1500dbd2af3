use Rattle.std.proofs.Common.{sym, ap, ◌∙◌}
use Rattle.pol_connection_maps.proofs.Peered.{none_found, row_in}
use Rattle.pol_connection_maps.proofs.own_sets.row_of.Goals as goal

pub unreachable-requires : goal.unreachable-requires
unreachable-requires c = none_found c.args.peer.now c.args.sets.now (ap row_in (sym c.in-None.is) ∙ c.get.ensures) c.requires
