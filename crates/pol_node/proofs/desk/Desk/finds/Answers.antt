-- The slot's row in the repository is that of the history that is shown.
use Rattle.std.proofs.Common.{List, sym, ap, subst, ◌∙◌}
use Rattle.std.specs.Option.{option_copied}
use Rattle.pol_model.specs.State.{State}
use Rattle.pol_history.specs.declared.event.HistoryEvent.{HistoryEvent}
use Rattle.pol_history.specs.Machine.{endpoint_in}
use Rattle.pol_repo_history.specs.AtHistory.{IsAt}
use Rattle.pol_repo_history.proofs.AtHistory.{state_at}
use Rattle.pol_node.proofs.desk.Desk.finds.Goals as goal

pub returns-in-None : goal.returns-in-None
returns-in-None g c =
    let options = g.N.NodeName.options in let history = c.args.pass.now.has.history in let repo = c.args.self.now.repo in
    let at = subst (λ (h : List HistoryEvent). IsAt options h repo) (sym c.requires.shown) c.args.self.now.at in
    ap (λ (s : State). endpoint_in c.args.slot s.endpoints) (sym (state_at options history repo at))
    ∙ sym c.endpoint_at.ensures.found ∙ ap option_copied c.in-None.is

pub finds_at-requires-clause-there : goal.finds_at-requires-clause-there
finds_at-requires-clause-there g c =
    let options = g.N.NodeName.options in let history = c.args.pass.now.has.history in let repo = c.args.self.now.repo in
    let at = subst (λ (h : List HistoryEvent). IsAt options h repo) (sym c.requires.shown) c.args.self.now.at in
    ap (λ (s : State). endpoint_in c.args.slot s.endpoints) (sym (state_at options history repo at))
    ∙ sym c.endpoint_at.ensures.found ∙ ap option_copied c.in-Some.is
