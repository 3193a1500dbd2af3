use Rattle.std.proofs.Common.{sym, subst}
use Rattle.pol_sets.proofs.IdLemmas.{Ascends}
use Rattle.pol_sets.proofs.Parted.{moved-ascends}
use Rattle.pol_sets.proofs.id_set.IdSet.moved_few.Goals as goal

pub in_blocks-requires : goal.in_blocks-requires
in_blocks-requires c = record {
  ascending = subst Ascends (sym c.in_ok-numbers.ensures) (moved-ascends c.args.ids.now c.args.gained.now c.args.lost.now c.requires.ids.ascends);
}
