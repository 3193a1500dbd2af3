-- A session whose pass ended for want of memory, and calls of a session.
use Rattle.std.specs.Prelude.{List, [], ◌∷◌}
use Rattle.pol_model.specs.declared.options.Mode.TheVariants.{Always}
use Rattle.pol_script.specs.declared.command.Command.{Command}
use Rattle.pol_script.specs.declared.command.Command.TheVariants as command
use Rattle.pol_run.specs.ExampleLines.{add_web, packet_to, set, web}
use Rattle.pol_history.specs.declared.event.HistoryEvent.{HistoryEvent}
use Rattle.pol_history.specs.declared.event.HistoryEvent.TheVariants as event
use Rattle.pol_history.specs.Grows.{PassState, nothing_yet}

-- two lines of the session
abbrev pub adds : Command
adds = command.Commit 1 add_web

abbrev pub sets : Command
sets = command.Commit 1 (set Always)

-- a question, and a line that asks for no answer of a phase
abbrev pub looks : Command
looks = command.Look 1 (packet_to web)

abbrev pub syncs : Command
syncs = command.Sync 1

-- the commit of the first of them, and one of another pass behind it
abbrev pub added : List HistoryEvent
added = event.Commit 1 0 add_web ∷ []

abbrev pub of_both : List HistoryEvent
of_both = event.Commit 1 0 add_web ∷ event.Commit 2 0 (set Always) ∷ []

-- the one of the other pass alone, and two of it that no history has
abbrev pub of_another : List HistoryEvent
of_another = event.Commit 2 0 (set Always) ∷ []

abbrev pub twice : List HistoryEvent
twice = event.Commit 2 0 add_web ∷ event.Commit 2 1 add_web ∷ []

-- ---- the session's pass

abbrev pub new_pass : PassState
new_pass = record { number = 1; has = nothing_yet }

-- it has seen this, and committed nothing
abbrev pub idle : List HistoryEvent → PassState
idle history = record { number = 1; has = record { history = history; mine = [] } }

-- it has committed the request of the first line
abbrev pub done : List HistoryEvent → PassState
done history = record { number = 1; has = record { history = history; mine = add_web ∷ [] } }

abbrev pub another_pass : PassState
another_pass = record { number = 2; has = nothing_yet }
