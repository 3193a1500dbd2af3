use Rattle.std.proofs.Common.{nat_lt, ◌∙◌, rules}
use Rattle.std.proofs.lemmas.List.Sorted.{IsPartitionPoint-from_clause, IsPartitionedBy-ltb}
use Rattle.pol_sets.proofs.Between.{never_fall, parts_at}
use Rattle.pol_sets.proofs.stretches.split_below.Goals as goal

pub returns : goal.returns
returns c =
    let point = c.partition_point-point in
    let parted = IsPartitionedBy-ltb (λ x. x) c.args.numbers.now c.args.bound (never_fall c.args.numbers.now c.requires) in
    let at = IsPartitionPoint-from_clause (λ x. nat_lt x c.args.bound) _ _ point.ensures.partitioned parted (λ a r q k. search rules) in
    let parts = parts_at (λ x. nat_lt x c.args.bound) c.args.numbers.now point.result point.ensures.bound at in
    record {
      below = c.split_at.ensures.front ∙ parts.0;
      others = c.split_at.ensures.back ∙ parts.1;
    }
