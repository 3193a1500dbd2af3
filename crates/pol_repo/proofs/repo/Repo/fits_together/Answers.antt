use Rattle.std.proofs.Common.{subst}
use Rattle.pol_model_laws.specs.WithoutFaults.{WithoutFaults}
use Rattle.pol_repo.specs.Repository.{Repository}
use Rattle.pol_repo.proofs.repo.Repo.fits_together.Goals as goal

pub returns : goal.returns
returns c = record {
  without_faults = subst (λ (r : Repository). WithoutFaults r.options r.journal) c.self.view_is c.self.invariant.0.without_faults;
}
