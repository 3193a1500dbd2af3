-- The endpoint that was taken lives.
use Rattle.std.proofs.Common.{List, subst, sym, ap, ◌∙◌}
use Rattle.pol_history.specs.declared.event.HistoryEvent.{HistoryEvent}
use Rattle.pol_history.specs.Commits.{Lives, state_now}
use Rattle.pol_history.specs.Machine.{endpoint_id}
use Rattle.pol_history.specs.Reports.{last_report}
use Rattle.pol_history.proofs.Names.{slot-live}
use Rattle.board_tests.proofs.gone.unreported.Goals as goal

pub last_report-last-requires : goal.last_report-last-requires
last_report-last-requires g c =
    let options = g.N.NodeName.options in let history = c.args.slot.now.has.history in let row = c.args.taken.endpoint in let is = c.requires.taken in
    let lives : Lives (state_now options history) (endpoint_id row) = record { row = row; found = slot-live options history is.legal 0 row is.is.endpoint } in
    record { live = subst (λ (h : List HistoryEvent). Lives (state_now options h) (endpoint_id row)) c.requires.shown lives }

pub returns-in-None-clause-last : goal.returns-in-None-clause-last
returns-in-None-clause-last g c =
    ap (last_report (endpoint_id c.args.taken.endpoint)) c.requires.shown ∙ sym c.last_report-last.ensures ∙ c.in-None.is
