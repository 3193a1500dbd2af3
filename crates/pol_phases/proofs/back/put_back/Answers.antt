use Rattle.std.proofs.Common.{◌∷◌, arith}
use Rattle.pol_phases.proofs.Returned.{leads-all, leads-first, leads-more}
use Rattle.pol_phases.proofs.back.put_back.Goals as goal

pub loop-mark-init : goal.loop-mark-init
loop-mark-init c =
    let left = c.new-left.result in
    rw (c.in_ok-answers.ensures.items, c.new-left.ensures.number)
    (leads-first c.args.marks c.args.told.items left.current.items left.later.items c.new-left.ensures.told)

pub loop-mark-preserved : goal.loop-mark-preserved
loop-mark-preserved c =
    let old = c.loop-mark.left in let new = c.answer.new.self in
    leads-more c.args.marks c.args.told.items c.loop-mark.waiting c.next.new.self c.loop-mark.answers.items c.answer.new.answers.items old.number new.number
    (old.current.items ∷ old.later.items) c.in-Some.mark new.current.items new.later.items c.in-Some.ensures.first c.in_ok-answer.ensures.answer
    c.answer.ensures.number c.answer.ensures.told c.loop-mark.invariant

pub answer-requires : goal.answer-requires
answer-requires c = omega (arith, c.loop-mark.invariant.few, c.loop-mark.answers.ok.0, c.loop-mark.answers.ok.1, c.loop-mark.answers.small)

pub returns : goal.returns
returns c =
    leads-all c.args.marks c.args.told.items c.loop-mark.waiting c.loop-mark.answers.items c.loop-mark.left.number _ c.in_default.ensures.none
    c.loop-mark.invariant
