use Rattle.std.proofs.Common.{◌∙◌, arith}
use Rattle.pol_selcache.proofs.Judged.{judged, none_judged}
use Rattle.pol_selcache.proofs.judge.matches_held.Goals as goal

pub returns-in-None-clause-answer : goal.returns-in-None-clause-answer
returns-in-None-clause-answer g c = (none_judged c.args.identities.now c.args.number c.args.selector.now c.in-None.ensures.labels).0

pub returns-in-None-clause-cost : goal.returns-in-None-clause-cost
returns-in-None-clause-cost g c = omega (arith, (none_judged c.args.identities.now c.args.number c.args.selector.now c.in-None.ensures.labels).1)

pub returns-in-Some-clause-answer : goal.returns-in-Some-clause-answer
returns-in-Some-clause-answer g c = c.matches.ensures.answer ∙ (judged c.args.identities.now c.args.number c.args.selector.now _ c.in-Some.ensures.labels).0

pub returns-in-Some-clause-cost : goal.returns-in-Some-clause-cost
returns-in-Some-clause-cost g c =
    omega (arith, c.matches.ensures.cost, (judged c.args.identities.now c.args.number c.args.selector.now _ c.in-Some.ensures.labels).1)
