-- What is kept is of a revision that was seen, and what is taken is of the revision that is shown.
use Rattle.std.proofs.Common.{◌≡◌, ◌↔◌, ◌∙◌, ℕ, None, IsErrOf, ap, arith, subst, sym}
use Rattle.std.specs.Arc.{arc_value}
use Rattle.std.proofs.lemmas.Option.{IfSome_then}
use Rattle.std.proofs.lemmas.Result.{IfOk-weaker}
use Rattle.pol_set_moves.specs.Moves.{TellsMovesSince}
use Rattle.pol_distill.specs.Distilled.{distilled}
use Rattle.pol_history.specs.Commits.{commits_in, revision_of, state_now}
use Rattle.pol_history.specs.Machine.{endpoint_in}
use Rattle.pol_history.proofs.Own.{revision-prefix}
use Rattle.pol_model.specs.PolicyMap.{policy_map}
use Rattle.pol_model.specs.State.{State}
use Rattle.pol_model.specs.declared.options.Options.{Options}
use Rattle.pol_repo.specs.Repository.{Repository, state_in}
use Rattle.pol_taken.specs.declared.error.TakeError.TheVariants as no_take
use Rattle.pol_taken.specs.OfState.{IsTakenOf}
use Rattle.pol_taken.specs.declared.taken.Taken.{Taken}
use Rattle.pol_repo_history.specs.AtHistory.{IsAt}
use Rattle.pol_node.proofs.Answering.{at_shown}
use Rattle.pol_repo_history.proofs.AtHistory.{revision_at, state_at}
use Rattle.pol_repo_history.proofs.Unlimited.{moves_at, taken_at}
use Rattle.pol_node.proofs.desk.Desk.take.Goals as goal

pub take-requires-clause-idle : goal.take-requires-clause-idle
take-requires-clause-idle g c = ap (λ (r : Repository). r.prepared) c.refresh.ensures.same ∙ c.args.self.now.at.idle

pub take-requires-clause-since : goal.take-requires-clause-since
take-requires-clause-since g c =
    let options = g.N.NodeName.options in let repo = c.refresh.new.self in let history = c.show.new.pass.has.history in
    let at = subst (IsAt options history) (sym c.refresh.ensures.same) (at_shown options c.args.self.now.writer.seen c.show.new.self.seen history c.args.self.now.repo c.args.self.now.at c.show.ensures.all c.show.ensures.same) in
    let fewer = revision-prefix c.args.pass.now.has.history history c.show.ensures.grows.whole.grows.goes_on in
    let now = revision_at options history repo at in
    IfSome_then c.args.since c.requires.since (λ (n : ℕ) known. omega (arith, fewer, now, known))

pub returns-clause-revision : goal.returns-clause-revision
returns-clause-revision g c =
    let options = g.N.NodeName.options in let repo = c.refresh.new.self in let history = c.show.new.pass.has.history in
    let at = subst (IsAt options history) (sym c.refresh.ensures.same) (at_shown options c.args.self.now.writer.seen c.show.new.self.seen history c.args.self.now.repo c.args.self.now.at c.show.ensures.all c.show.ensures.same) in
    IfOk-weaker c.take.result (IsTakenOf repo.options (state_in repo) c.args.slot) (λ (t : Taken). t.revision ≡ revision_of history)
    (λ t is. is.revision ∙ revision_at options history repo at) c.take.ensures.taken

pub returns-clause-taken : goal.returns-clause-taken
returns-clause-taken g c =
    let options = g.N.NodeName.options in let repo = c.refresh.new.self in let history = c.show.new.pass.has.history in
    let at = subst (IsAt options history) (sym c.refresh.ensures.same) (at_shown options c.args.self.now.writer.seen c.show.new.self.seen history c.args.self.now.repo c.args.self.now.at c.show.ensures.all c.show.ensures.same) in
    IfOk-weaker c.take.result (IsTakenOf repo.options (state_in repo) c.args.slot) (IsTakenOf options (state_now options history) c.args.slot)
    (λ t is. taken_at options history repo at c.args.slot t is) c.take.ensures.taken

pub returns-clause-moves : goal.returns-clause-moves
returns-clause-moves g c =
    let options = g.N.NodeName.options in let repo = c.refresh.new.self in let history = c.show.new.pass.has.history in
    let at = subst (IsAt options history) (sym c.refresh.ensures.same) (at_shown options c.args.self.now.writer.seen c.show.new.self.seen history c.args.self.now.repo c.args.self.now.at c.show.ensures.all c.show.ensures.same) in
    IfOk-weaker c.take.result (λ (t : Taken). TellsMovesSince repo.options repo.journal c.args.since t.sets t.moves)
    (λ (t : Taken). TellsMovesSince options (commits_in history) c.args.since t.sets t.moves)
    (λ t is. moves_at options history repo at c.args.since t.sets t.moves is) c.take.ensures.moves

pub returns-clause-map : goal.returns-clause-map
returns-clause-map g c =
    let options = g.N.NodeName.options in let repo = c.refresh.new.self in let history = c.show.new.pass.has.history in
    let at = subst (IsAt options history) (sym c.refresh.ensures.same) (at_shown options c.args.self.now.writer.seen c.show.new.self.seen history c.args.self.now.repo c.args.self.now.at c.show.ensures.all c.show.ensures.same) in
    IfOk-weaker c.take.result (λ (t : Taken). distilled (arc_value t.filters) t.sets ≡ policy_map repo.options (state_in repo) t.endpoint)
    (λ (t : Taken). distilled (arc_value t.filters) t.sets ≡ policy_map options (state_now options history) t.endpoint)
    (λ t is.
    is
    ∙ ap (λ (o : Options). policy_map o (state_in repo) t.endpoint) at.options_same
    ∙ ap (λ (s : State). policy_map options s t.endpoint) (state_at options history repo at)) c.take.ensures.map

pub returns-clause-gone : goal.returns-clause-gone
returns-clause-gone g c =
    let options = g.N.NodeName.options in let repo = c.refresh.new.self in let history = c.show.new.pass.has.history in
    let at = subst (IsAt options history) (sym c.refresh.ensures.same) (at_shown options c.args.self.now.writer.seen c.show.new.self.seen history c.args.self.now.repo c.args.self.now.at c.show.ensures.all c.show.ensures.same) in
    subst (λ (s : State). IsErrOf c.take.result no_take.Gone ↔ (endpoint_in c.args.slot s.endpoints ≡ None)) (state_at options history repo at) c.take.ensures.gone
