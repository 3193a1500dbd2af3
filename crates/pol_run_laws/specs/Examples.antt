-- Histories that place small outputs: three of `RightRuns` in `pol_run`, written out; and one of these as a script that is
-- cut into phases and sessions.
use Rattle.std.specs.Prelude.{ℕ, List, [], ◌∷◌, map, None, Err}
use Rattle.pol_mapkey.specs.Entries.{Entry as MapEntry}
use Rattle.pol_mapkey.specs.declared.Word.TheVariants.{DeniedByDefault}
use Rattle.pol_model.specs.PolicyMap.{allow_every}
use Rattle.pol_model.specs.declared.limits.TheConstants.{EVERY_IDENTITY}
use Rattle.pol_model.specs.declared.options.Mode.TheVariants.{Always, Never}
use Rattle.pol_ports.specs.declared.Direction.TheVariants.{Ingress, Egress}
use Rattle.pol_answer.specs.declared.answer.Answer.{Answer}
use Rattle.pol_answer.specs.declared.answer.Answer.TheVariants as answer
use Rattle.pol_script.specs.declared.command.Command.{Command}
use Rattle.pol_script.specs.declared.command.Command.TheVariants as command
use Rattle.pol_script.specs.declared.line_fault.LineFault.TheVariants.{Json}
use Rattle.pol_run.specs.ExampleLines.{web, add_web, first_number, packet_to, remove_web, set}
use Rattle.pol_run.specs.RightRuns as lines
use Rattle.pol_run.specs.Spots.{Line, Reading}
use Rattle.pol_history.specs.declared.event.EndpointId.{EndpointId}
use Rattle.pol_history.specs.declared.event.HistoryEvent.{HistoryEvent}
use Rattle.pol_history.specs.declared.event.HistoryEvent.TheVariants as event

-- the endpoint that was added at the revision
abbrev pub web_of : ℕ → EndpointId
web_of added = record { name = web; added = added }

-- the map of an endpoint without rules in mode `default`
abbrev pub all_allowed : List MapEntry
all_allowed = allow_every Ingress EVERY_IDENTITY ∷ allow_every Egress EVERY_IDENTITY ∷ []

-- of `older_map`: both maps were published after both commits
abbrev pub older_map : List HistoryEvent
older_map =
    event.Commit 1 0 add_web
    ∷ event.Commit 1 1 (set Always)
    ∷ event.Publish (web_of 1) 1 all_allowed
    ∷ event.Publish (web_of 1) 2 []
    ∷ []

-- of `interleaved`: session 2 committed first
abbrev pub interleaved : List HistoryEvent
interleaved =
    event.Commit 2 0 (set Never)
    ∷ event.Commit 1 0 (set Always)
    ∷ event.Commit 2 1 add_web
    ∷ event.Publish (web_of 3) 3 []
    ∷ []

-- of `rows_of_old_and_new`: both endpoints were blocked, the first one while it was live
abbrev pub rows_of_old_and_new : List HistoryEvent
rows_of_old_and_new =
    event.Commit 1 0 add_web
    ∷ event.Blocked (web_of 1) 1 2
    ∷ event.Commit 1 1 remove_web
    ∷ event.Commit 1 2 add_web
    ∷ event.Blocked (web_of 3) 3 2
    ∷ []

-- ---- a script that is cut

-- the lines of `interleaved` as they were read, with a faulty one
abbrev pub read_lines : List Reading
read_lines = Err Json ∷ map (λ (line : Line). line.0) lines.interleaved

-- the commands of sessions 1 and 2 in its three phases
abbrev pub cut_lines : List (List (List Command))
cut_lines =
    ((command.Commit 1 (set Always) ∷ []) ∷ (command.Commit 2 (set Never) ∷ []) ∷ [])
    ∷ ([] ∷ (command.Commit 2 add_web ∷ []) ∷ [])
    ∷ ((command.Look 1 (packet_to web) ∷ []) ∷ [] ∷ [])
    ∷ []

-- what the sessions were told
abbrev pub told_lines : List (List (List Answer))
told_lines =
    ((answer.Committed 2 None ∷ []) ∷ (answer.Committed 1 None ∷ []) ∷ [])
    ∷ ([] ∷ (answer.Committed 3 first_number ∷ []) ∷ [])
    ∷ ((answer.Verdict 3 DeniedByDefault ∷ []) ∷ [] ∷ [])
    ∷ []

abbrev pub answered_lines : List Answer
answered_lines = answer.BadLine Json ∷ map (λ (line : Line). line.1) lines.interleaved
