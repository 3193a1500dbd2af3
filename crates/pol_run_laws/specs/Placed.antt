-- Which answers one history places: each line of a session stands between two beginnings of the history, and its answer
-- is one that the line's call of the node allows between them.
use Rattle.std.specs.Prelude.{◌≡◌, ℕ, ◌+◌, ◌==◌, ◌≤◌, if◌then◌else◌, List, length, take, slice_get, count_by, Option, None, Some, Ok, Err}
use Rattle.std.specs.List.{filter_map}
use Rattle.pol_model.specs.declared.options.Options.{Options}
use Rattle.pol_model.specs.declared.request.Request.{Request}
use Rattle.pol_answer.specs.declared.answer.Answer.{Answer}
use Rattle.pol_answer.specs.declared.answer.Answer.TheVariants as answer
use Rattle.pol_script.specs.declared.command.Command.TheVariants as command
use Rattle.pol_script.specs.declared.line_fault.LineFault.{LineFault}
use Rattle.pol_run.specs.ByIndex.{ComesBefore, IsLine, IsOf, is_phase}
use Rattle.pol_run.specs.Spots.{Line, Reading}
use Rattle.pol_history.specs.declared.event.HistoryEvent.{HistoryEvent}
use Rattle.pol_history.specs.declared.event.HistoryEvent.TheVariants as event
use Rattle.pol_history.specs.Calls.{IsAbsent, IsAccepted, IsRefused, IsSynced, IsTraced}
use Rattle.pol_history.specs.Commits.{commits_by}
use Rattle.pol_history.specs.Look.{Looked, NoEndpoint, NotYet, Found, look}

-- ---- lines of a session

-- line i is of this session
pub record IsLineOf (lines : List Line) (session i : ℕ) (reading : Reading) (told : Answer) : Type 0 where
  pub line : IsLine lines i reading told
  pub of : IsOf session reading

-- the request of a line of the session that was answered `ok`
abbrev pub request_ok : ℕ → Line → Option Request
request_ok session (Ok (command.Commit its request), answer.Committed revision identity) = if its == session then Some request else None
request_ok session other = None

-- the requests of the session's `ok` lines, in order
abbrev pub requests_ok : ℕ → List Line → List Request
requests_ok session lines = filter_map (request_ok session) lines

-- ---- answers

-- what was found, as the answer to a query
abbrev pub answer_found : Looked → Answer
answer_found (NoEndpoint revision) = answer.NoEndpoint revision
answer_found (NotYet revision) = answer.NotYet revision
answer_found (Found revision word) = answer.Verdict revision word

-- The answer is one that the line's call allows, where the session's pass had seen `old` before the call, and has seen
-- `new` after it.
abbrev pub Allows : Options → ℕ → List HistoryEvent → List HistoryEvent → Reading → Answer → Type 0
Allows options pass old new (Ok (command.Commit session request)) (answer.Committed revision identity) =
    (slots : ℕ) × IsAccepted options pass old new request (record { revision = revision; identity = identity; slots = slots })
Allows options pass old new (Ok (command.Commit session request)) (answer.Refused refused) = IsRefused options old new request refused
Allows options pass old new (Ok (command.Look session query)) told = told ≡ answer_found (look options new query)
Allows options pass old new (Ok (command.Trace session query)) (answer.Traced revision trace) = IsTraced options old new query revision trace
Allows options pass old new (Ok (command.Trace session query)) (answer.NoEndpoint revision) = IsAbsent options old new query revision
Allows options pass old new (Ok (command.Sync session)) (answer.Synced revision full) = IsSynced options old new revision full
Allows options pass old new reading told = ⊥

-- ---- the whole

-- the pass is that of a session with a line
pub record IsPassOfLine (lines : List Line) (pass_of : ℕ → ℕ) (pass : ℕ) : Type 0 where
  pub session : ℕ
  pub i : ℕ
  pub reading : Reading
  pub told : Answer
  pub line : IsLineOf lines session i reading told
  pub same : pass_of session ≡ pass

-- The history places the lines. Beginnings of the history are told by their numbers of events, and lines are counted
-- from 0.
pub record IsPlaced (options : Options) (history : List HistoryEvent) (lines : List Line) : Type 0 where
  -- the pass of each session, and what it had seen before and after each line of it
  pub pass_of : ℕ → ℕ
  pub before : ℕ → ℕ
  pub after : ℕ → ℕ
  -- the first beginning is one of the second, which is one of the history
  pub grows : (session i : ℕ) (reading : Reading) (told : Answer) → IsLineOf lines session i reading told → before i ≤ after i
  pub within : (session i : ℕ) (reading : Reading) (told : Answer) → IsLineOf lines session i reading told → after i ≤ length history
  -- the second of a line is a beginning of the first of each later line of its session, and of each line of a later phase
  pub in_order : (session i : ℕ) (first : Reading) (told : Answer) (other j : ℕ) (second : Reading) (later : Answer)
      → IsLineOf lines session i first told → IsLineOf lines other j second later → ComesBefore lines i first j second
      → after i ≤ before j
  -- each answer is one that the line's call allows from the first to the second
  pub allowed : (session i : ℕ) (reading : Reading) (told : Answer) → IsLineOf lines session i reading told
      → Allows options (pass_of session) (take (before i) history) (take (after i) history) reading told
  -- a faulty line is refused, and a `phase` line has the number of its phase, from 1
  pub faulty : (i : ℕ) (fault : LineFault) (told : Answer) → IsLine lines i (Err fault) told → told ≡ answer.BadLine fault
  pub phases : (i : ℕ) (told : Answer) → IsLine lines i (Ok command.Phase) told → told ≡ answer.Phase (count_by is_phase (take i lines) + 1)
  -- each session has a pass of its own, whose commits are the requests of the session's `ok` lines, in order
  pub apart : (session i : ℕ) (first : Reading) (told : Answer) (other j : ℕ) (second : Reading) (later : Answer)
      → IsLineOf lines session i first told → IsLineOf lines other j second later → pass_of session ≡ pass_of other → session ≡ other
  pub own : (session i : ℕ) (reading : Reading) (told : Answer) → IsLineOf lines session i reading told
      → commits_by (pass_of session) history ≡ requests_ok session lines
  -- there are no other commits
  pub no_others : (place pass number : ℕ) (request : Request) → slice_get history place ≡ Some (event.Commit pass number request)
      → IsPassOfLine lines pass_of pass
