use Rattle.std.proofs.Common.{◌≡◌, ap, length, arith}
use Rattle.pol_audit.specs.Extent.{extent}
use Rattle.pol_audit.proofs.Whole.{whole_of}
use Rattle.pol_audit.proofs.directions.differences.Goals as goal

pub returns : goal.returns
returns g c =
    let made = c.in_ok-push_directions.ensures in
    let grown = made.grown in
    let few = made.few in
    let cost = made.cost in
    let same : extent c.as_slice.result.now c.as_slice-2.result.now ≡ extent c.args.left.now c.args.right.now =
    λ i. extent (c.as_slice.ensures.entries i) (c.as_slice-2.ensures.entries i) in
    let list = ap length c.from_vec.ensures in
    let none = ap length c.new-out.ensures.items in
    record {
      difference =
          whole_of c.args.left.now c.args.right.now c.as_slice.result.now c.as_slice-2.result.now c.new-out.result.items grown.0 c.push_directions.new.out.items c.from_vec.result
          c.as_slice.ensures.entries c.as_slice-2.ensures.entries c.new-out.ensures.items c.from_vec.ensures grown.1 grown.2;
      few = omega arith;
      forward = made.forward;
      cost = omega arith;
    }
