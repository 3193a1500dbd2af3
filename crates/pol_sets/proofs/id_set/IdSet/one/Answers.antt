use Rattle.pol_sets.proofs.Search.{one_id}
use Rattle.pol_sets.proofs.id_set.IdSet.one.Goals as goal

pub invariant_of-result : goal.invariant_of-result
invariant_of-result c = one_id c.args.id c.ranges.id.fits
