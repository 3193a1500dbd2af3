-- Two sessions that play a script in two phases: with a faulty line, a refusal, and queries for which no endpoint is live.
use Rattle.std.specs.Prelude.{List, [], ◌∷◌, map, Ok, Err}
use Rattle.pol_answer.specs.declared.answer.Answer.{Answer}
use Rattle.pol_answer.specs.declared.answer.Answer.TheVariants as answer
use Rattle.pol_model.specs.declared.answer.Fault.TheVariants.{DuplicateEndpoint}
use Rattle.pol_script.specs.declared.command.Command.{Command}
use Rattle.pol_script.specs.declared.command.Command.TheVariants as command
use Rattle.pol_script.specs.declared.line_fault.LineFault.TheVariants.{Json}
use Rattle.pol_run.specs.ExampleLines.{add_web, db, first_number, no_endpoint, ok, packet_to, phase, refused, web}
use Rattle.pol_run.specs.Spots.{Line, Reading}
use Rattle.pol_history.specs.declared.event.HistoryEvent.{HistoryEvent}
use Rattle.pol_history.specs.declared.event.HistoryEvent.TheVariants as event
use Rattle.pol_history.specs.Grows.{PassState, nothing_yet}

-- the lines with their answers
abbrev pub lines : List Line
lines =
    (Err Json, answer.BadLine Json)
    ∷ no_endpoint 1 web 0
    ∷ ok 1 add_web 1 first_number
    ∷ no_endpoint 2 db 0
    ∷ phase 1
    ∷ refused 2 add_web DuplicateEndpoint 1
    ∷ (Ok (command.Trace 1 (packet_to db)), answer.NoEndpoint 1)
    ∷ []

abbrev pub readings : List Reading
readings = map (λ (line : Line). line.0) lines

-- the commands of each session in each phase
abbrev pub phases : List (List (List Command))
phases =
    ((command.Look 1 (packet_to web) ∷ command.Commit 1 add_web ∷ []) ∷ (command.Look 2 (packet_to db) ∷ []) ∷ [])
    ∷ ((command.Trace 1 (packet_to db) ∷ []) ∷ (command.Commit 2 add_web ∷ []) ∷ [])
    ∷ []

-- what the sessions were told in each phase
abbrev pub told : List (List (List Answer))
told =
    ((answer.NoEndpoint 0 ∷ answer.Committed 1 first_number ∷ []) ∷ (answer.NoEndpoint 0 ∷ []) ∷ [])
    ∷ ((answer.NoEndpoint 1 ∷ []) ∷ (answer.Refused (record { revision = 1; fault = DuplicateEndpoint }) ∷ []) ∷ [])
    ∷ []

-- the one commit, by the pass of session 1
abbrev pub history : List HistoryEvent
history = event.Commit 1 0 add_web ∷ []

-- the passes of both before the first phase, and after either
abbrev pub seats : List PassState
seats = record { number = 1; has = nothing_yet } ∷ record { number = 2; has = nothing_yet } ∷ []

abbrev pub seats_after : List PassState
seats_after =
    record { number = 1; has = record { history = history; mine = add_web ∷ [] } }
    ∷ record { number = 2; has = record { history = history; mine = [] } }
    ∷ []
