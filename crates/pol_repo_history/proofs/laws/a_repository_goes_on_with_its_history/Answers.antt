use Rattle.pol_repo_history.proofs.AtHistory.{at_blocked, at_commit, at_publish}
use Rattle.pol_repo_history.proofs.laws.a_repository_goes_on_with_its_history.Goals as goal

pub returns : goal.returns
returns c = record {
  commit = λ options history repo pass number request at. at_commit options history repo at pass number request;
  publish = λ options history repo endpoint revision table at. at_publish options history repo at endpoint revision table;
  blocked = λ options history repo endpoint revision count at. at_blocked options history repo at endpoint revision count;
}
