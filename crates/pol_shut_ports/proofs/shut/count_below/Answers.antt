use Rattle.std.proofs.Common.{nat_lt, sym, rules}
use Rattle.std.proofs.lemmas.List.Sorted.{IsPartitionPoint-from_clause, IsPartitionedBy-ltb}
use Rattle.pol_audit.specs.declared.difference.Difference.{Difference}
use Rattle.pol_audit.proofs.Segments.{count_to_point}
use Rattle.pol_shut_ports.specs.Shut.{place_of}
use Rattle.pol_shut_ports.proofs.shut.count_below.Goals as goal

pub returns-clause-count : goal.returns-clause-count
returns-clause-count c =
    let parted = IsPartitionedBy-ltb place_of c.args.ranges.now c.args.bound c.requires in
    let point = IsPartitionPoint-from_clause (λ (d : Difference). nat_lt (place_of d) c.args.bound) _ _ c.partition_point.ensures.partitioned parted (λ a r q k. search rules) in
    sym (count_to_point (λ (d : Difference). nat_lt (place_of d) c.args.bound) c.args.ranges.now c.partition_point.result c.partition_point.ensures.bound point)
