-- The row of a name tells whether the endpoint is live.
use Rattle.std.proofs.Common.{List, ℕ, refl, sym, ap, ◌∙◌}
use Rattle.std.specs.Option.{option_copied}
use Rattle.pol_model.specs.Endpoints.{endpoint_of}
use Rattle.pol_model.specs.State.{State}
use Rattle.pol_history.specs.Commits.{state_now}
use Rattle.pol_history.specs.Machine.{endpoint_id}
use Rattle.pol_repo.specs.Repository.{state_in}
use Rattle.pol_repo_history.proofs.AtHistory.{state_at}
use Rattle.pol_node.proofs.Living.{lives_by}
use Rattle.pol_node.proofs.desk.Desk.is_live.Goals as goal

pub returns-in-Some : goal.returns-in-Some
returns-in-Some g c =
    let options = g.N.NodeName.options in let seen = c.args.self.now.writer.seen in let repo = c.args.self.now.repo in
    let endpoint = c.args.taken.now.endpoint in
    lives_by (state_now options seen) (endpoint_id endpoint) c.in-Some.row.now _
    (ap (λ (s : State). endpoint_of endpoint.name s.endpoints) (sym (state_at options seen repo c.args.self.now.at))
    ∙ ap (λ (name : List ℕ). endpoint_of name (state_in repo).endpoints) (sym c.as_str.ensures)
    ∙ sym c.endpoint.ensures.found
    ∙ ap option_copied c.in-Some.is) refl
