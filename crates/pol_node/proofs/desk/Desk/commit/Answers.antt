-- A commit of the repository is one of the history.
use Rattle.std.proofs.Common.{rules, ◌++◌, ◌∷◌, [], ℕ, List, length, IfErr, ap, subst, sym, ◌∙◌}
use Rattle.std.proofs.lemmas.Result.{IfErr-weaker}
use mathlib.Core.List.{IsPrefix}
use Rattle.pol_history.specs.declared.event.HistoryEvent.{HistoryEvent}
use Rattle.pol_history.specs.declared.event.HistoryEvent.TheVariants as event
use Rattle.pol_history.specs.Commits.{commits_by, state_now}
use Rattle.pol_history.specs.Meet.{AreOf, has}
use Rattle.pol_history.proofs.Meetings.{are_of-commit}
use Rattle.pol_repo.specs.Causes.{IsCause}
use Rattle.pol_repo.specs.Repository.{state_in}
use Rattle.pol_node.specs.Desk.{IsCauseOf}
use Rattle.pol_node.proofs.Answering.{accepted_here, answered_here, at_shown, committed_at, refused_at}
use Rattle.pol_repo_history.proofs.AtHistory.{state_at}
use Rattle.pol_node.proofs.desk.Desk.commit.Goals as goal

pub returns-in_err-ready-clause-cause : goal.returns-in_err-ready-clause-cause
returns-in_err-ready-clause-cause g c =
    let options = g.N.NodeName.options in let repo = c.args.self.now.repo in let history = c.show.new.pass.has.history in
    let at = at_shown options c.args.self.now.writer.seen c.show.new.self.seen history repo c.args.self.now.at c.show.ensures.all c.show.ensures.same in
    let told : IfErr c.from_residual.result (IsCause (state_in repo) c.args.request) = search rules in
    IfErr-weaker c.from_residual.result (IsCause (state_in repo) c.args.request) (IsCauseOf options c.args.pass.now.has.history history c.args.request)
    (refused_at options history repo at c.args.pass.now.has.history c.show.ensures.grows.whole.grows.goes_on c.args.request) told

pub invariant_of-self-in-Ok : goal.invariant_of-self-in-Ok
invariant_of-self-in-Ok g c =
    let options = g.N.NodeName.options in let passes = g.N.NodeName.passes in let seen = c.args.self.now.writer.seen in let shown = c.show.new.self.seen in
    let pass = c.show.new.pass.number in let number = length (commits_by pass shown) in let request = c.in_ok-ready.ready.request in
    let ours = subst (λ (h : List HistoryEvent). AreOf passes h) (sym c.show.ensures.same) c.args.self.now.ours in
    let listed = ap (λ (n : ℕ). has passes n) c.show.ensures.grows.number ∙ c.requires.handed_out in
    record {
      at = committed_at options seen shown c.commit.new.self.seen c.args.self.now.repo c.prepare.new.self c.accept.new.self pass number c.args.request request
          c.args.self.now.at c.show.ensures.same c.in_ok-ready.ensures.prepared c.accept.ensures.new c.in-Ok.ensures.added;
      ours = subst (λ (h : List HistoryEvent). AreOf passes h) (sym c.in-Ok.ensures.added) (are_of-commit passes shown pass number request ours listed);
      limited = c.args.self.now.limited;
    }

pub returns-in-Ok-clause-accepted : goal.returns-in-Ok-clause-accepted
returns-in-Ok-clause-accepted g c =
    let options = g.N.NodeName.options in let seen = c.args.self.now.writer.seen in let shown = c.show.new.self.seen in let repo = c.args.self.now.repo in
    let old = c.args.pass.now.has.history in let number = length (commits_by c.show.new.pass.number shown) in
    let begins = subst (λ (h : List HistoryEvent). IsPrefix old h) c.show.ensures.all c.show.ensures.grows.whole.grows.goes_on in
    let asked = c.in_ok-ready.ensures.request in
    let is = c.commit.ensures.shown ∙ c.in-Ok.ensures.added ∙ (λ i. shown ++ event.Commit (c.show.ensures.grows.number i) number (asked i) ∷ []) in
    let before = ap state_in c.in_ok-ready.ensures.prepared ∙ state_at options seen repo c.args.self.now.at
    ∙ ap (λ (h : List HistoryEvent). state_now options h) (sym c.show.ensures.same) in
    let answer = answered_here (state_in c.prepare.new.self) (state_now options shown) (state_in c.accept.new.self) c.in_ok-ready.ready.request c.args.request
    c.accept.result c.accept.ensures.committed before asked in
    accepted_here options c.args.pass.now.number number c.args.request c.accept.result old shown c.commit.new.pass.has.history begins is answer
