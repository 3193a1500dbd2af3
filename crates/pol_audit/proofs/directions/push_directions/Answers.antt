use Rattle.std.proofs.Common.{arith}
use Rattle.pol_audit.proofs.Results.{on_ok}
use Rattle.pol_audit.proofs.directions.push_directions.Goals as goal

pub returns : goal.returns
returns g c =
    let first = c.in_ok-push_direction.ensures in
    let second = c.push_direction-2.ensures in
    let few = first.few in
    let forward = first.forward in
    let cost = first.cost in
    let forward' = second.forward in
    let cost' = second.cost in
    record {
      grown = on_ok c.push_direction-2.result _ _ second.grown (λ last. (c.push_direction.new.out.items, first.grown, last));
      few = on_ok c.push_direction-2.result _ _ second.few (λ few'. omega arith);
      forward = omega arith;
      cost = omega arith;
    }
