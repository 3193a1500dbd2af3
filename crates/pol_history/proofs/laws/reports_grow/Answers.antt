use Rattle.pol_history.proofs.Grown.{commits_bound, reports_grow}
use Rattle.pol_history.proofs.laws.reports_grow.Goals as goal

pub returns : goal.returns
returns c = record {
  revision = λ options history endpoint i j first second legal. reports_grow options history legal endpoint i j first second;
  commits = λ options history endpoint i j first second legal. commits_bound options history legal endpoint i j first second;
}
