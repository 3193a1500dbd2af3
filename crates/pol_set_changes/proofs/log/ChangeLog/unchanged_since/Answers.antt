use Rattle.std.proofs.Common.{sym, ap, ◌∙◌}
use Rattle.pol_arena.specs.Twin.{newest_on}
use Rattle.pol_set_changes.specs.Log.{unchanged_since}
use Rattle.pol_set_changes.proofs.Chained.{newest_node, no_node}
use Rattle.pol_set_changes.proofs.log.ChangeLog.unchanged_since.Goals as goal

pub returns-in-Some-clause-unchanged : goal.returns-in-Some-clause-unchanged
returns-in-Some-clause-unchanged c =
    newest_node c.self.inside.nodes c.self.inside.count c.self.inside.horizon c.self.inside.latest c.self.inside.spare c.args.selector c.self.invariant c.newest.ensures.sound.distinct c.in-Some.node c.get.result.now
    (ap (λ chain. newest_on chain c.self.inside.nodes.ages) (sym c.chain_of.ensures) ∙ sym c.newest.ensures.node ∙ c.in-Some.is)
    c.get.ensures.value
    ∙ ap (unchanged_since c.args.selector) c.self.view_is

pub returns-in-None-clause-unchanged : goal.returns-in-None-clause-unchanged
returns-in-None-clause-unchanged c =
    no_node c.self.inside.nodes c.self.inside.count c.self.inside.horizon c.self.inside.latest c.self.inside.spare c.args.selector c.self.invariant c.newest.ensures.sound.distinct
    (ap (λ chain. newest_on chain c.self.inside.nodes.ages) (sym c.chain_of.ensures) ∙ sym c.newest.ensures.node ∙ c.in-None.is)
    ∙ ap (unchanged_since c.args.selector) c.self.view_is
