-- A repository knows nothing of the limit of maps, and what is taken of it is what is taken under options with a limit.
use Rattle.std.proofs.Common.{ℕ, List, Option, subst}
use Rattle.pol_sets.specs.declared.sets.Move.{Move}
use Rattle.pol_sets.specs.declared.sets.SetRow.{SetRow}
use Rattle.pol_model.specs.State.{State}
use Rattle.pol_model.specs.declared.options.Options.{Options}
use Rattle.pol_model.specs.declared.request.Request.{Request}
use Rattle.pol_set_moves.specs.Moves.{TellsMovesSince}
use Rattle.pol_set_moves.proofs.Unlimited.{moves_under, taken_under}
use Rattle.pol_history.specs.declared.event.HistoryEvent.{HistoryEvent}
use Rattle.pol_history.specs.Commits.{commits_in, state_now}
use Rattle.pol_repo.specs.Repository.{Repository, state_in}
use Rattle.pol_taken.specs.OfState.{IsTakenOf}
use Rattle.pol_taken.specs.declared.taken.Taken.{Taken}
use Rattle.pol_repo_history.specs.AtHistory.{IsAt}
use Rattle.pol_repo_history.proofs.AtHistory.{state_at as state_there}

module _ (options : Options) (history : List HistoryEvent) (repo : Repository) (at : IsAt options history repo) where
  pub taken_at : (slot : ℕ) (taken : Taken) → IsTakenOf repo.options (state_in repo) slot taken → IsTakenOf options (state_now options history) slot taken
  taken_at slot taken is =
      taken_under options (state_now options history) slot taken
      (subst (λ (o : Options). IsTakenOf o (state_now options history) slot taken) at.options_same
      (subst (λ (s : State). IsTakenOf repo.options s slot taken) (state_there options history repo at) is))

  pub moves_at : (since : Option ℕ) (rows : List SetRow) (moves : Option (List Move)) → TellsMovesSince repo.options repo.journal since rows moves
      → TellsMovesSince options (commits_in history) since rows moves
  moves_at since rows moves is =
      moves_under options (commits_in history) since rows moves
      (subst (λ (o : Options). TellsMovesSince o (commits_in history) since rows moves) at.options_same
      (subst (λ (journal : List Request). TellsMovesSince repo.options journal since rows moves) at.journal is))
