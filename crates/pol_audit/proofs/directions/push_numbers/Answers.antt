use Rattle.std.proofs.Common.{ap, sym, subst, ◌∙◌, arith}
use Rattle.std.proofs.lemmas.List.Sums.{sum_by_more, sum_by_more_le, sum_by-take-le}
use Rattle.pol_audit.specs.Extent.{share_of}
use Rattle.pol_audit.specs.Kinds.{PortsAscend, numbered, own_of}
use Rattle.pol_audit.proofs.Groups.{grown_none, next_number}
use Rattle.pol_audit.proofs.Parts.{own_ascends}
use Rattle.pol_audit.proofs.directions.push_numbers.Goals as goal

pub loop-id-init : goal.loop-id-init
loop-id-init g c = record {
  grown = λ lefts rights _ _. grown_none lefts rights c.args.out.now.items;
  few = omega arith;
  forward = omega arith;
  cost = omega arith;
}

pub push_number-requires-clause-left : goal.push_number-requires-clause-left
push_number-requires-clause-left g c = subst PortsAscend (sym c.parts_of-parts.ensures.left) (own_ascends c.args.left.now c.requires.left_ports _)

pub push_number-requires-clause-right : goal.push_number-requires-clause-right
push_number-requires-clause-right g c = subst PortsAscend (sym c.parts_of-parts.ensures.right) (own_ascends c.args.right.now c.requires.right_ports _)

pub push_number-requires-clause-left_every : goal.push_number-requires-clause-left_every
push_number-requires-clause-left_every g c = subst PortsAscend (sym c.parts_of-parts.ensures.left_every) (c.requires.left_ports 0)

pub push_number-requires-clause-right_every : goal.push_number-requires-clause-right_every
push_number-requires-clause-right_every g c = subst PortsAscend (sym c.parts_of-parts.ensures.right_every) (c.requires.right_ports 0)

pub loop-id-preserved : goal.loop-id-preserved
loop-id-preserved g c =
    let inv = c.loop-id.invariant in
    let made = c.in_ok-push_number.ensures in
    let of = c.parts_of-parts.ensures in
    let part = of.share in
    let more = sum_by_more (share_of c.args.left.now c.args.right.now) c.args.numbers.now c.loop-id.id-index 0 c.loop-id-test.true in
    record {
      grown = λ lefts rights one two.
          next_number c.args.dir lefts rights c.args.numbers.now c.loop-id.id-index _ _ _ c.requires.numbers c.loop-id-test.true
          (inv.grown lefts rights one two)
          (made.grown lefts rights
          (record { table = one.0; own_is = of.left ∙ ap (own_of _) one.1; every_is = of.left_every ∙ ap (numbered 0) one.1 })
          (record { table = two.0; own_is = of.right ∙ ap (own_of _) two.1; every_is = of.right_every ∙ ap (numbered 0) two.1 }));
      few = (let before = inv.few in let few = made.few in omega arith);
      forward = (let before = inv.forward in let forward = made.forward in omega arith);
      cost = (let before = inv.cost in let cost = made.cost in omega arith);
    }

pub returns-in_err-push_number-clause-forward : goal.returns-in_err-push_number-clause-forward
returns-in_err-push_number-clause-forward g c =
    let before = c.loop-id.invariant.forward in
    let forward = c.push_number.ensures.forward in
    omega arith

pub returns-in_err-push_number-clause-cost : goal.returns-in_err-push_number-clause-cost
returns-in_err-push_number-clause-cost g c =
    let before = c.loop-id.invariant.cost in
    let cost = c.push_number.ensures.cost in
    let part = c.parts_of-parts.ensures.share in
    let most = sum_by_more_le (share_of c.args.left.now c.args.right.now) c.args.numbers.now c.loop-id.id-index 0 c.loop-id-test.true in
    omega arith

pub returns-clause-few : goal.returns-clause-few
returns-clause-few g c =
    let few = c.loop-id.invariant.few in
    let most = sum_by-take-le (share_of c.args.left.now c.args.right.now) c.args.numbers.now c.loop-id.id-index in
    omega arith

pub returns-clause-forward : goal.returns-clause-forward
returns-clause-forward g c = c.loop-id.invariant.forward

pub returns-clause-cost : goal.returns-clause-cost
returns-clause-cost g c =
    let cost = c.loop-id.invariant.cost in
    let most = sum_by-take-le (share_of c.args.left.now c.args.right.now) c.args.numbers.now c.loop-id.id-index in
    omega arith
