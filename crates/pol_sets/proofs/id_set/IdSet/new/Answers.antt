use Rattle.std.proofs.Common.{sym, subst}
use Rattle.pol_sets.specs.IdSet.{IsIdSet}
use Rattle.pol_sets.proofs.Search.{no_ids}
use Rattle.pol_sets.proofs.id_set.IdSet.new.Goals as goal

pub invariant_of-result : goal.invariant_of-result
invariant_of-result c = subst IsIdSet (sym c.empty.ensures) no_ids
