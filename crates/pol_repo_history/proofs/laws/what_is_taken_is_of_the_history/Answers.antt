use Rattle.pol_repo_history.proofs.Unlimited.{moves_at, taken_at}
use Rattle.pol_repo_history.proofs.laws.what_is_taken_is_of_the_history.Goals as goal

pub returns : goal.returns
returns c = record {
  taken = λ options history repo slot taken at is. taken_at options history repo at slot taken is;
  moves = λ options history repo since rows moves at is. moves_at options history repo at since rows moves is;
}
