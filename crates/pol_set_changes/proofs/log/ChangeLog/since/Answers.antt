use Rattle.std.proofs.Common.{Some, ◌∙◌, ap, arith}
use Rattle.pol_set_changes.specs.Log.{since}
use Rattle.pol_set_changes.proofs.Walk.{since_found}
use Rattle.pol_set_changes.proofs.log.ChangeLog.since.Goals as goal

pub returns-clause-since : goal.returns-clause-since
returns-clause-since c =
    ap Some c.in_ok-net_on_chain.ensures
    ∙ since_found c.self.inside.nodes c.self.inside.count c.self.inside.horizon c.self.inside.latest c.self.inside.spare c.args.selector c.args.revision c.self.invariant (omega arith)
    ∙ ap (λ l. since l c.args.selector c.args.revision) c.self.view_is
