use Rattle.std.proofs.Common.{ap, ◌∙◌}
use Rattle.pol_repo.specs.Repository.{Repository, state_in}
use Rattle.pol_machine.specs.Stands.{options_in}
use Rattle.pol_repo_history.proofs.AtHistory.{revision_at}
use Rattle.pol_machine.proofs.serial.synced.Goals as goal

pub returns-in-Ok-clause-said : goal.returns-in-Ok-clause-said
returns-in-Ok-clause-said c m stands = (
  c.revision-revision.ensures.revision
      ∙ ap (λ (r : Repository). (state_in r).revision) c.repo.ensures.repo
      ∙ revision_at (options_in c.args.machine.now) m.history c.args.machine.now.repo stands.at,
  c.in-Ok.ensures.full m stands,
)
