use Rattle.std.proofs.Common.{nat_cmp, sym, subst}
use Rattle.std.specs.List.Sorted.{IsStrictlySortedBy}
use Rattle.pol_model.specs.Selects.{set_at}
use Rattle.pol_model_laws.proofs.SelectedPeerSets.{set_ascends}
use Rattle.pol_connection_maps.proofs.Listed.{strictly}
use Rattle.pol_connection_maps.proofs.sets.set_row.Goals as goal

pub from_ascending-requires : goal.from_ascending-requires
from_ascending-requires c = record {
  ascending = subst (IsStrictlySortedBy nat_cmp) (sym c.in_ok-numbers.ensures)
      (strictly (set_at c.args.identities.now c.args.peer.now) (set_ascends c.args.identities.now c.args.peer.now c.requires.numbers));
}
