-- The row tells its endpoint, whose last report is the board's.
use Rattle.std.proofs.Common.{Bool, List, sym, ap, subst, ◌∙◌}
use Rattle.pol_history.specs.declared.event.HistoryEvent.{HistoryEvent}
use Rattle.pol_history.specs.Commits.{Lives, state_now}
use Rattle.pol_history.specs.Machine.{endpoint_id}
use Rattle.pol_history.specs.Reports.{last_report}
use Rattle.pol_history.proofs.Names.{slot-live}
use Rattle.pol_node.specs.Kept.{kept_unless}
use Rattle.pol_node.proofs.Keeping.{stays_here}
use Rattle.pol_node.proofs.desk.Desk.finds_at.Goals as goal

pub last_report-last-requires : goal.last_report-last-requires
last_report-last-requires g c =
    let options = g.N.NodeName.options in let history = c.args.pass.now.has.history in let row = c.args.row.now in
    let lives : Lives (state_now options history) (endpoint_id row) =
    record { row = row; found = slot-live options history c.requires.legal c.args.slot row c.requires.there } in
    record { live = subst (λ (h : List HistoryEvent). Lives (state_now options h) (endpoint_id row)) c.requires.shown lives }

pub returns-then-is_same_report : goal.returns-then-is_same_report
returns-then-is_same_report g c =
    let options = g.N.NodeName.options in let history = c.args.pass.now.has.history in let row = c.args.row.now in
    stays_here options history c.args.slot row c.requires.there c.requires.legal c.args.kept.now c.let_go.new.kept c.requires.kept
    (ap (last_report (endpoint_id row)) c.requires.shown ∙ sym c.last_report-last.ensures ∙ c.is_same_report.ensures.same c.if-is_same_report.true
    ∙ c.last_kept.ensures)
    (c.let_go.ensures ∙ ap (λ (lost : Bool). kept_unless lost c.args.kept.now) c.is_other-other.ensures)

pub returns-else-is_same_report : goal.returns-else-is_same_report
returns-else-is_same_report g c =
    let row = c.args.row.now in
    record {
      row = row;
      there = c.requires.there;
      other = λ same. c.is_same_report.ensures.other c.if-is_same_report.false
          (c.last_report-last.ensures ∙ sym (ap (last_report (endpoint_id row)) c.requires.shown) ∙ same ∙ sym c.last_kept.ensures);
    }
