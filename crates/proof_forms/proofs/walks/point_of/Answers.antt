use Rattle.std.proofs.Common.{ℕ, nat_lt, rules}
use Rattle.std.proofs.lemmas.List.Sorted.{IsPartitionPoint-from_clause, IsPartitionedBy-ltb}
use Rattle.proof_forms.proofs.walks.point_of.Goals as goal

pub returns : goal.returns
returns c =
    let parted = IsPartitionedBy-ltb (λ (n : ℕ). n) c.args.numbers.now c.args.bound c.requires in
    IsPartitionPoint-from_clause (λ (n : ℕ). nat_lt n c.args.bound) _ _ c.partition_point.ensures.partitioned parted (λ a r q k. search rules)
