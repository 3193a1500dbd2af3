use Rattle.std.proofs.lemmas.List.Sorted.{IsPermutation-trans}
use Rattle.pol_distill.proofs.Joined.{rises}
use Rattle.pol_distill.proofs.sweep.in_order.Goals as goal

pub returns-clause-same : goal.returns-clause-same
returns-clause-same c = IsPermutation-trans _ _ _ c.sort_by_cached_key.ensures.permutation c.sort_unstable.ensures.permutation

pub returns-clause-rises : goal.returns-clause-rises
returns-clause-rises c = rises _ c.sort_unstable.ensures.sorted
