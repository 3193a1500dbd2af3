use Rattle.std.proofs.Common.{nat_lt, sym, rules}
use Rattle.std.proofs.lemmas.List.Sorted.{IsPartitionPoint-from_clause, IsPartitionedBy-ltb}
use Rattle.pol_mapkey.specs.Entries.{Entry}
use Rattle.pol_audit.proofs.Segments.{count_to_point}
use Rattle.pol_shut_ports.specs.Shut.{entry_place}
use Rattle.pol_shut_ports.proofs.standing.count_below.Goals as goal

pub returns-clause-count : goal.returns-clause-count
returns-clause-count c =
    let parted = IsPartitionedBy-ltb entry_place c.args.entries.now c.args.bound c.requires in
    let point = IsPartitionPoint-from_clause (λ (e : Entry). nat_lt (entry_place e) c.args.bound) _ _ c.partition_point.ensures.partitioned parted (λ a r q k. search rules) in
    sym (count_to_point (λ (e : Entry). nat_lt (entry_place e) c.args.bound) c.args.entries.now c.partition_point.result c.partition_point.ensures.bound point)
