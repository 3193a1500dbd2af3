use Rattle.std.proofs.Common.{List, subst, sym}
use Rattle.pol_history.specs.declared.event.HistoryEvent.{HistoryEvent}
use Rattle.pol_history.specs.Meet.{AreOf}
use Rattle.pol_history.proofs.Meetings.{are_of-none}
use Rattle.pol_repo_history.specs.AtHistory.{IsAt}
use Rattle.pol_node.proofs.desk.Desk.open.Goals as goal

pub invariant_of-result : goal.invariant_of-result
invariant_of-result g c = record {
  at = subst (λ (h : List HistoryEvent). IsAt g.N.NodeName.options h c.args.repo) (sym c.requires.writer) c.requires.repo;
  ours = subst (λ (h : List HistoryEvent). AreOf g.N.NodeName.passes h) (sym c.requires.writer) (are_of-none g.N.NodeName.passes);
  limited = c.requires.limit;
}
