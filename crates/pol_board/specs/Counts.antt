-- The writer's count of each pass's commits, and the passes of an empty board.
use Rattle.std.specs.Prelude.{◌≡◌, ℕ, zero, suc, ◌<◌, List, [], ◌∷◌, ◌++◌, length, slice_index}
use Rattle.pol_history.specs.declared.event.HistoryEvent.{HistoryEvent}
use Rattle.pol_history.specs.Commits.{commits_by}
use Rattle.pol_history.specs.Grows.{PassState, nothing_yet}

pub record Counted (counts : List ℕ) (history : List HistoryEvent) : Type 0 where
  pub each : (pass : ℕ) → pass < length counts → slice_index counts pass ≡ length (commits_by pass history)

-- as many passes, with the numbers from 0 on
abbrev pub new_passes : ℕ → List PassState
new_passes zero = []
new_passes (suc n) = new_passes n ++ record { number = n; has = nothing_yet } ∷ []
