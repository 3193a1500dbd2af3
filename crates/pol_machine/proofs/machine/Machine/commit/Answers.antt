use Rattle.std.proofs.Common.{◌≡◌, ◌+◌, ◌≤◌, false, subst}
use Rattle.pol_history.specs.declared.machine.Event.TheVariants as step
use Rattle.pol_history.specs.Machine.{Machine}
use Rattle.pol_repo.specs.Cost.{label_peers}
use Rattle.pol_repo.specs.Repository.{state_in}
use Rattle.pol_requests.specs.Prepared.{is_of_policy}
use Rattle.pol_machine.specs.Rows.{by_name}
use Rattle.pol_machine.specs.Stands.{Kept, Stands, StepsTo, Stored, kept_of, options_in, options_of}
use Rattle.pol_machine.proofs.Begun.{stands_after}
use Rattle.pol_machine.proofs.Committing.{commit_steps}
use Rattle.pol_machine.proofs.machine.Machine.commit.Goals as goal

pub invariant_of-self : goal.invariant_of-self
invariant_of-self g c =
    let i = c.self.inside in
    let k : Kept = kept_of (record { limit = i.limit; repo = i.repo; rows = i.rows.entries; takes = i.takes.entries }) in
    stands_after (options_of k) c.self.invariant.machine (step.Commit c.args.request)
    (kept_of (record { limit = i.limit; repo = c.commit.new.repo; rows = c.commit.new.rows.entries; takes = i.takes.entries })) c.commit.result
    (commit_steps k c.self.invariant.machine c.self.invariant.stands c.args.request c.commit.new.repo (by_name c.commit.new.rows) c.commit.result c.commit.ensures.commits)

pub returns-clause-step : goal.returns-clause-step
returns-clause-step g c =
    let i = c.self.inside in
    let k : Kept = kept_of (record { limit = i.limit; repo = i.repo; rows = i.rows.entries; takes = i.takes.entries }) in
    let new : Stored = record { limit = i.limit; repo = c.commit.new.repo; rows = c.commit.new.rows.entries; takes = i.takes.entries } in
    subst (λ (s : Stored). (m : Machine) → Stands s m → StepsTo (options_in s) m (step.Commit c.args.request) new c.commit.result) c.self.view_is
    (λ m stands. commit_steps k m stands c.args.request c.commit.new.repo (by_name c.commit.new.rows) c.commit.result c.commit.ensures.commits)

pub returns-clause-cost : goal.returns-clause-cost
returns-clause-cost g c =
    subst (λ (s : Stored). is_of_policy c.args.request ≡ false → c.commit.new.steps ≤ c.args.steps.now + label_peers (state_in s.repo).policies) c.self.view_is
    c.commit.ensures.cost
