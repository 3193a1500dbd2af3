-- What was told at the present revision is told again to whoever has seen what has been seen by now.
use Rattle.std.proofs.Common.{List, sym, subst, ◌∙◌}
use Rattle.pol_history.specs.declared.event.HistoryEvent.{HistoryEvent}
use Rattle.pol_history.specs.Calls.{IsSynced}
use Rattle.pol_history.specs.Legal.{IsLegal}
use Rattle.pol_history.proofs.Beginnings.{prefix_self}
use Rattle.pol_node.proofs.Again.{synced_again}
use Rattle.pol_node.proofs.last.keep.Goals as goal

pub of-requires : goal.of-requires
of-requires g c =
    let options = g.N.NodeName.options in
    let new = c.args.pass.now.has.history in
    let report = c.args.report.now in
    record {
      tells = subst (λ (h : List HistoryEvent). IsSynced options h h report.revision report.full) (sym c.seen.ensures.same)
          (synced_again options c.args.then.now new new (subst (IsLegal options) c.seen.ensures.same c.seen.ensures.legal) c.requires.begins (prefix_self new) report.revision
          (c.if-report-now.false ∙ c.requires.now) report.full c.requires.tells);
    }
