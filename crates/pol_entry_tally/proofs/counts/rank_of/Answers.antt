use Rattle.std.proofs.Common.{nat_lt, rules}
use Rattle.std.proofs.lemmas.List.Sorted.{IsPartitionPoint-from_clause}
use Rattle.pol_entry_tally.specs.declared.counts.Count.{Count}
use Rattle.pol_entry_tally.proofs.AtPlaces.{drop_from, partitioned, take_before}
use Rattle.pol_entry_tally.proofs.counts.rank_of.Goals as goal

pub returns-clause-before : goal.returns-clause-before
returns-clause-before c =
    let counts = c.args.counts.now in
    let at = IsPartitionPoint-from_clause (λ (own : Count). nat_lt own.place c.args.place) _ _ c.partition_point.ensures.partitioned (partitioned c.args.place counts c.requires) (λ a r q k. search rules) in
    take_before c.args.place counts c.partition_point.result c.partition_point.ensures.bound at

pub returns-clause-from : goal.returns-clause-from
returns-clause-from c =
    let counts = c.args.counts.now in
    let at = IsPartitionPoint-from_clause (λ (own : Count). nat_lt own.place c.args.place) _ _ c.partition_point.ensures.partitioned (partitioned c.args.place counts c.requires) (λ a r q k. search rules) in
    drop_from c.args.place counts c.partition_point.result c.partition_point.ensures.bound at
