-- What playing the lines of one session answers, where `old` is what the session's pass had seen before the first of them,
-- and `new` is what it has seen after the last.
use Rattle.std.specs.Prelude.{◌≡◌, ℕ, List, [], ◌∷◌, length, Option, None, Some, Ok}
use Rattle.std.specs.List.{filter_map, zip}
use mathlib.Core.List.{IsPrefix}
use Rattle.pol_model.specs.declared.options.Options.{Options}
use Rattle.pol_model.specs.declared.request.Request.{Request}
use Rattle.pol_answer.specs.declared.answer.Answer.{Answer}
use Rattle.pol_answer.specs.declared.answer.Answer.TheVariants as answer
use Rattle.pol_script.specs.declared.command.Command.{Command}
use Rattle.pol_script.specs.declared.command.Command.TheVariants as command
use Rattle.pol_history.specs.declared.event.HistoryEvent.{HistoryEvent}
use Rattle.pol_run_laws.specs.Placed.{Allows}

-- the request of a command that was answered `ok`
abbrev pub request_done : Command × Answer → Option Request
request_done (command.Commit session request, answer.Committed revision identity) = Some request
request_done other = None

-- the requests that were answered `ok`, in order
abbrev pub requests_done : List (Command × Answer) → List Request
requests_done played = filter_map request_done played

-- Each answer is one that the command's call allows, from one beginning of the history to a longer one: the first is
-- `old`, each goes on from the one before, and the last is `new`.
abbrev pub PlaysOn : Options → ℕ → List HistoryEvent → List HistoryEvent → List (Command × Answer) → Type 0
PlaysOn options pass old new [] = old ≡ new
PlaysOn options pass old new (first ∷ later) =
    (next : List HistoryEvent) × IsPrefix old next × Allows options pass old next (Ok first.0) first.1 × PlaysOn options pass next new later

-- the commands have one answer each, and `own` is what was committed
pub record IsPlayed (options : Options) (pass : ℕ) (old new : List HistoryEvent) (commands : List Command) (answers : List Answer) (own : List Request) : Type 0 where
  pub one_each : length answers ≡ length commands
  pub plays : PlaysOn options pass old new (zip commands answers)
  pub committed : own ≡ requests_done (zip commands answers)
