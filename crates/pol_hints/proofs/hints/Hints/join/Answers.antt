use Rattle.std.proofs.Common.{subst}
use mathlib.Core.List.{IsPrefix}
use Rattle.pol_hints.specs.Passes.{Pass}
use Rattle.pol_hints.proofs.Steps.{joined_begin, merges, sounds}
use Rattle.pol_hints.proofs.hints.Hints.join.Goals as goal

pub absorb-requires-clause-rule : goal.absorb-requires-clause-rule
absorb-requires-clause-rule g c = merges _ _ _ _ c.pass.invariant.part c.other.invariant.part c.pass.invariant.rests c.other.invariant.rests

pub learn_as-requires-clause-rule : goal.learn_as-requires-clause-rule
learn_as-requires-clause-rule g c = sounds _ _

pub returns-clause-past : goal.returns-clause-past
returns-clause-past g c =
    let seen = c.learn_as.new.pass.me.0.client.seen in
    subst (λ (p : Pass). IsPrefix p.seen seen) c.pass.view_is (joined_begin c.pass.inside.pass.me.0.client c.other.inside.pass.me.0.client _ _ c.absorb.ensures.rule c.learn_as.ensures.queue.1 c.learn_as.ensures.rule.1).0

pub returns-clause-other_past : goal.returns-clause-other_past
returns-clause-other_past g c =
    let seen = c.learn_as.new.pass.me.0.client.seen in
    subst (λ (p : Pass). IsPrefix p.seen seen) c.other.view_is (joined_begin c.pass.inside.pass.me.0.client c.other.inside.pass.me.0.client _ _ c.absorb.ensures.rule c.learn_as.ensures.queue.1 c.learn_as.ensures.rule.1).1
