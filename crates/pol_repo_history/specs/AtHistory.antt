-- A repository at a history.
use Rattle.std.specs.Prelude.{◌≡◌, List, None}
use Rattle.pol_history.specs.declared.event.HistoryEvent.{HistoryEvent}
use Rattle.pol_history.specs.Commits.{commits_in}
use Rattle.pol_model.specs.declared.options.Options.{Options}
use Rattle.pol_repo.specs.Repository.{Repository}

-- The repository's requests are the commits of the history, none is prepared, and its options are these, but for the limit
-- of maps, of which a repository knows nothing.
pub record IsAt (options : Options) (history : List HistoryEvent) (repo : Repository) : Type 0 where
  pub journal : repo.journal ≡ commits_in history
  pub idle : repo.prepared ≡ None
  pub options_same : repo.options ≡ record options { map_max = None }
