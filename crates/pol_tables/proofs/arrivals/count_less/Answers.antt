use Rattle.std.proofs.Common.{ℕ, nat_lt, sym, rules, subst, map-id}
use Rattle.std.proofs.lemmas.List.Sorted.{IsPartitionPoint-from_clause, IsPartitionedBy-ltb}
use Rattle.pol_model.specs.Ascending.{Ascends}
use Rattle.pol_tables.proofs.InOrder.{count_to_point, rises}
use Rattle.pol_tables.proofs.arrivals.count_less.Goals as goal

pub returns : goal.returns
returns c =
    let list = c.args.numbers.now in
    let test = λ (n : ℕ). nat_lt n c.args.number in
    let parted = IsPartitionedBy-ltb (λ (n : ℕ). n) list c.args.number (rises (λ (n : ℕ). n) list (subst Ascends (sym (map-id list)) c.requires)) in
    let point = IsPartitionPoint-from_clause test _ _ c.partition_point.ensures.partitioned parted (λ a r q k. search rules) in
    sym (count_to_point test list c.partition_point.result c.partition_point.ensures.bound point)
