use Rattle.std.proofs.Common.{◌<◌, ◌^◌, [], List, ap, sym, subst, ◌∙◌, arith}
use Rattle.pol_model_laws.proofs.Positive.{rows_positive}
use Rattle.pol_model.specs.After.{state_of}
use Rattle.pol_distill.proofs.MapLaw.{read_is_verdict}
use Rattle.pol_history.specs.declared.event.HistoryEvent.{HistoryEvent}
use Rattle.pol_history.specs.Commits.{commits_by}
use Rattle.pol_history.specs.Content.{content_of}
use Rattle.pol_history.specs.Grows.{PassGrows, PassState}
use Rattle.pol_history.specs.LookIn.{MapsAreRead, look_in}
use Rattle.pol_history.proofs.LookedIn.{look-told}
use Rattle.pol_board_view.specs.Answers.{IsLookOf}
use Rattle.pol_board.proofs.Showing.{grows_nothing}
use Rattle.pol_board.proofs.pass.Pass.look.Goals as goal

pub returns-in_default-enter-clause-grows : goal.returns-in_default-enter-clause-grows
returns-in_default-enter-clause-grows g c =
    let i = c.self.inside in let options = g.N.NodeName.options in
    let seen : PassState = record { number = i.number; has = record { history = i.seen; mine = commits_by i.number i.own } } in
    subst (λ (p : PassState). PassGrows options p seen []) c.self.view_is (grows_nothing options seen c.self.invariant.1)

pub returns-in_default-since-clause-grows : goal.returns-in_default-since-clause-grows
returns-in_default-since-clause-grows g c =
    let i = c.self.inside in let options = g.N.NodeName.options in
    let seen : PassState = record { number = i.number; has = record { history = i.seen; mine = commits_by i.number i.own } } in
    subst (λ (p : PassState). PassGrows options p seen []) c.self.view_is (grows_nothing options seen c.self.invariant.1)

pub returns-clause-answer : goal.returns-clause-answer
returns-clause-answer g c =
    let options = g.N.NodeName.options in let query = c.args.query.now in let seen = c.in-Some-since.seen in
    let law : MapsAreRead options = λ requests endpoint dir number proto port small.
    read_is_verdict options (state_of options requests) endpoint dir number proto port (rows_positive options requests) small in
    let port : query.port < 2 ^ 16 = omega (arith, c.port_of.ensures, c.port_of.type_inv) in
    let there = c.deref-2.ensures ∙ sym c.deref.ensures ∙ sym c.in-Some-since.ensures.newer.0 in
    let told = ap (λ (h : List HistoryEvent). look_in (content_of options h) query) there
    ∙ look-told options law seen query port c.in-Some-since.ensures.newer.2 in
    subst (IsLookOf c.look-found.result) told c.look-found.ensures.answer
