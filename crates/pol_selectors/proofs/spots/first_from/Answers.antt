use Rattle.std.proofs.Common.{nat_lt, rules}
use Rattle.std.proofs.lemmas.Fn.{always_returns_same}
use Rattle.std.proofs.lemmas.List.Sorted.{IsPartitionedBy-ltb}
use Rattle.pol_selectors.specs.declared.spots.Spot.{Spot}
use Rattle.pol_selectors.proofs.Placed.{from_within, numbers_rise}
use Rattle.pol_selectors.proofs.spots.first_from.Goals as goal

pub returns : goal.returns
returns c =
    let spots = c.args.spots.now in
    let test = λ (spot : Spot). nat_lt spot.number c.args.number in
    let rise = IsPartitionedBy-ltb (λ (spot : Spot). spot.number) spots c.args.number (numbers_rise spots c.requires.ascend) in
    let point = c.partition_point.ensures.partitioned test (always_returns_same _ _ _ (λ a r g h. search rules)) rise in
    record { from = from_within c.args.number spots c.partition_point.result point.0 point.1 c.partition_point.ensures.bound }
