use Rattle.std.proofs.Common.{◌≡◌, List, Option, None, Some, sym, ap, ◌∙◌, subst}
use Rattle.std.specs.Option.{option_copied}
use Rattle.pol_history.specs.declared.event.HistoryEvent.{HistoryEvent}
use Rattle.pol_history.specs.declared.event.LastReport.{LastReport}
use Rattle.pol_history.specs.Commits.{Lives, state_now}
use Rattle.pol_history.specs.Reports.{last_report}
use Rattle.pol_history_log.specs.Asked.{id_of}
use Rattle.pol_board_view.proofs.Telling.{reported-at}
use Rattle.pol_board_view.proofs.face.Face.last_report.Goals as goal

pub returns-in-None : goal.returns-in-None
returns-in-None g c =
    let options = g.N.NodeName.options in
    let h = c.self.inside.seen in
    let id = id_of c.args.name.now c.args.added in
    let none : Option LastReport = None in
    let lives = subst (λ (k : List HistoryEvent). Lives (state_now options k) id) (sym c.self.view_is) c.requires.live in
    subst (λ (k : List HistoryEvent). none ≡ last_report id k) c.self.view_is
    (reported-at options h c.args.name.now c.args.added c.len.ensures.legal lives c.self.inside.rows None (sym c.get.ensures.value ∙ ap option_copied c.in-None.is) c.self.invariant.1)

pub returns-in-Some : goal.returns-in-Some
returns-in-Some g c =
    let options = g.N.NodeName.options in
    let h = c.self.inside.seen in
    let id = id_of c.args.name.now c.args.added in
    let lives = subst (λ (k : List HistoryEvent). Lives (state_now options k) id) (sym c.self.view_is) c.requires.live in
    subst (λ (k : List HistoryEvent). c.in-Some.row.now.report ≡ last_report id k) c.self.view_is
    (reported-at options h c.args.name.now c.args.added c.len.ensures.legal lives c.self.inside.rows (Some c.in-Some.row.now)
    (sym c.get.ensures.value ∙ ap option_copied c.in-Some.is) c.self.invariant.1)
