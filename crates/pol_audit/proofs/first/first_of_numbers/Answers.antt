use Rattle.std.proofs.Common.{sym, ap, ◌∙◌, arith}
use Rattle.std.proofs.lemmas.List.Sums.{sum_by_more, sum_by_more_le}
use Rattle.pol_audit.specs.Extent.{share_of}
use Rattle.pol_audit.specs.Kinds.{numbered, own_of}
use Rattle.pol_audit.proofs.Firsts.{first_here_by, nothing_here_by}
use Rattle.pol_audit.proofs.Orders.{none_of}
use Rattle.pol_audit.proofs.first.first_of_numbers.Goals as goal

pub loop-id-init : goal.loop-id-init
loop-id-init g c = record {
  none = λ lefts rights _ _. none_of lefts rights;
  forward = omega arith;
  cost = omega arith;
}

pub returns-in_err-first-clause-cost : goal.returns-in_err-first-clause-cost
returns-in_err-first-clause-cost g c =
    let before = c.loop-id.invariant.cost in
    let cost = c.first_of_number.ensures.cost in
    let part = c.parts_of-parts.ensures.share in
    let most = sum_by_more_le (share_of c.args.left.now c.args.right.now) c.args.numbers.now c.loop-id.id-index 0 c.loop-id-test.true in
    omega arith

pub returns-then-is_some-clause-first : goal.returns-then-is_some-clause-first
returns-then-is_some-clause-first g c = λ lefts rights one two small_left small_right.
    let of = c.parts_of-parts.ensures in
    first_here_by lefts rights c.args.dir c.args.numbers.now c.requires.numbers small_left small_right c.loop-id.id-index c.in_ok-first.first
    (sym c.is_some.ensures ∙ c.if-is_some.true) c.loop-id-test.true (c.loop-id.invariant.none lefts rights one two)
    (c.in_ok-first.ensures.first lefts rights
    (record { table = one.0; own_is = of.left ∙ ap (own_of _) one.1; every_is = of.left_every ∙ ap (numbered 0) one.1 })
    (record { table = two.0; own_is = of.right ∙ ap (own_of _) two.1; every_is = of.right_every ∙ ap (numbered 0) two.1 }))

pub returns-then-is_some-clause-cost : goal.returns-then-is_some-clause-cost
returns-then-is_some-clause-cost g c =
    let before = c.loop-id.invariant.cost in
    let cost = c.in_ok-first.ensures.cost in
    let part = c.parts_of-parts.ensures.share in
    let most = sum_by_more_le (share_of c.args.left.now c.args.right.now) c.args.numbers.now c.loop-id.id-index 0 c.loop-id-test.true in
    omega arith

pub loop-id-preserved : goal.loop-id-preserved
loop-id-preserved g c =
    let inv = c.loop-id.invariant in
    let made = c.in_ok-first.ensures in
    let of = c.parts_of-parts.ensures in
    let part = of.share in
    let more = sum_by_more (share_of c.args.left.now c.args.right.now) c.args.numbers.now c.loop-id.id-index 0 c.loop-id-test.true in
    record {
      none = λ lefts rights one two.
          nothing_here_by lefts rights c.args.dir c.args.numbers.now c.requires.numbers c.loop-id.id-index c.in_ok-first.first
          (sym c.is_some.ensures ∙ c.if-is_some.false) c.loop-id-test.true (inv.none lefts rights one two)
          (made.first lefts rights
          (record { table = one.0; own_is = of.left ∙ ap (own_of _) one.1; every_is = of.left_every ∙ ap (numbered 0) one.1 })
          (record { table = two.0; own_is = of.right ∙ ap (own_of _) two.1; every_is = of.right_every ∙ ap (numbered 0) two.1 }));
      forward = (let before = inv.forward in let forward = made.forward in omega arith);
      cost = (let before = inv.cost in let cost = made.cost in omega arith);
    }
