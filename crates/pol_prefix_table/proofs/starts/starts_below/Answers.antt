use Rattle.std.proofs.Common.{nat_lt, rules}
use Rattle.std.proofs.lemmas.Bool.{ltb-true, ltb-false}
use Rattle.std.proofs.lemmas.List.Sorted.{IsPartitionPoint-from_clause, IsPartitionedBy-ltb}
use Rattle.pol_addr.specs.Address.{bits_of}
use Rattle.pol_prefix_table.specs.declared.walk.Reached.{Reached}
use Rattle.pol_prefix_table.proofs.starts.starts_below.Goals as goal

pub returns : goal.returns
returns g c =
    let starts = c.args.starts.now in
    let bound = bits_of (g.B.Bits.seen c.args.bits) in
    let parted = IsPartitionedBy-ltb (λ (r : Reached). bits_of r.to.addr) starts bound c.requires.rise in
    let point = IsPartitionPoint-from_clause (λ (r : Reached). nat_lt (bits_of r.to.addr) bound) starts c.partition_point.result c.partition_point.ensures.partitioned parted (λ a r q k. search rules) in
    (λ i r low high. ltb-true _ bound (point.0 i r low high), λ i r low high. ltb-false _ bound (point.1 i r low high))
