use Rattle.std.proofs.Common.{nat_lt, sym, rules}
use Rattle.std.proofs.lemmas.List.Sorted.{IsNonDecreasingBy-from_sort, IsPartitionPoint-from_clause, IsPartitionedBy-ltb}
use Rattle.pol_set_changes.proofs.Counted.{count_to_point}
use Rattle.pol_set_changes.proofs.net.count_below.Goals as goal

pub returns : goal.returns
returns c =
    let parted = IsPartitionedBy-ltb (λ id. id) c.args.ids.now c.args.bound (IsNonDecreasingBy-from_sort (λ id. id) c.args.ids.now c.requires) in
    let point = IsPartitionPoint-from_clause (λ id. nat_lt id c.args.bound) _ _ c.partition_point.ensures.partitioned parted (λ a r q k. search rules) in
    sym (count_to_point (λ id. nat_lt id c.args.bound) c.args.ids.now c.partition_point.result c.partition_point.ensures.bound point)
