use Rattle.std.proofs.Common.{sym, subst}
use Rattle.pol_sets.specs.Blocks.{numbers_in}
use Rattle.pol_sets.specs.IdSet.{IsIdSet}
use Rattle.pol_sets.proofs.Parted.{moved_ids}
use Rattle.pol_sets.proofs.id_set.IdSet.moved_many.Goals as goal

pub of_blocks-requires : goal.of_blocks-requires
of_blocks-requires c = record {
  set = subst IsIdSet (sym c.in_ok-moved.ensures) (moved_ids (numbers_in c.args.blocks.now) c.args.gained.now c.args.lost.now c.requires.ids c.requires.gained);
}
