use Rattle.std.proofs.Common.{nat_lt, sym, rules}
use Rattle.std.proofs.lemmas.List.Sorted.{IsPartitionPoint-from_clause, IsPartitionedBy-ltb}
use Rattle.pol_model.specs.declared.row.Endpoint.{Endpoint}
use Rattle.pol_tables.proofs.InOrder.{count_to_point, rises}
use Rattle.pol_tables.proofs.slots.place_of.Goals as goal

pub returns : goal.returns
returns c =
    let list = c.args.endpoints.now in
    let test = λ (e : Endpoint). nat_lt e.slot c.args.slot in
    let parted = IsPartitionedBy-ltb (λ (e : Endpoint). e.slot) list c.args.slot (rises (λ e. e.slot) list c.requires) in
    let point = IsPartitionPoint-from_clause test _ _ c.partition_point.ensures.partitioned parted (λ a r q k. search rules) in
    sym (count_to_point test list c.partition_point.result c.partition_point.ensures.bound point)
