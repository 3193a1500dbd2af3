use Rattle.std.proofs.lemmas.List.Filters.{dedup_is}
use Rattle.pol_entry_tally.proofs.Once.{once_all, once_ascends, once_no_more}
use Rattle.pol_entry_tally.proofs.asked.in_order.Goals as goal

pub returns-clause-ascends : goal.returns-clause-ascends
returns-clause-ascends c = once_ascends _ _ _ c.sort_unstable.ensures.permutation c.sort_unstable.ensures.sorted (dedup_is _ _ _ c.dedup.ensures.filtered)

pub returns-clause-same : goal.returns-clause-same
returns-clause-same c = once_all _ _ _ c.sort_unstable.ensures.permutation c.sort_unstable.ensures.sorted (dedup_is _ _ _ c.dedup.ensures.filtered)

pub returns-clause-no_more : goal.returns-clause-no_more
returns-clause-no_more c = once_no_more _ _ _ c.sort_unstable.ensures.permutation c.sort_unstable.ensures.sorted (dedup_is _ _ _ c.dedup.ensures.filtered)
