-- Answers in input order: each line is answered from the state after the commits of the lines before it,
-- a verdict and a trace at the newest revision, and a synchronisation without a map that is too large.
use Rattle.std.specs.Prelude.{ℕ, List, [], ◌∷◌, Option, None, Some, Ok, Err}
use Rattle.pol_model.specs.State.{State}
use Rattle.pol_model.specs.After.{start, after}
use Rattle.pol_model.specs.Committed.{identity_given}
use Rattle.pol_model.specs.Endpoints.{endpoint_of}
use Rattle.pol_model.specs.Explain.{explain_of}
use Rattle.pol_model.specs.Fault.{fault_of}
use Rattle.pol_model.specs.Remote.{verdict_for}
use Rattle.pol_model.specs.declared.answer.Fault.{Fault}
use Rattle.pol_model.specs.declared.answer.Trace.{Trace}
use Rattle.pol_model.specs.declared.options.Options.{Options}
use Rattle.pol_model.specs.declared.request.Query.{Query}
use Rattle.pol_model.specs.declared.request.Request.{Request}
use Rattle.pol_model.specs.declared.row.Endpoint.{Endpoint}
use Rattle.pol_answer.specs.declared.answer.Answer.{Answer}
use Rattle.pol_answer.specs.declared.answer.Answer.TheVariants as answer
use Rattle.pol_script.specs.declared.command.Command.TheVariants as command
use Rattle.pol_run.specs.Spots.{Reading, phase_after}

-- ---- commits

-- the state that a request leaves, and its answer, where this is its fault
abbrev pub state_with : State → Request → Option Fault → State
state_with s request None = after s request
state_with s request (Some fault) = s

abbrev pub answer_to_commit : State → State → Request → Option Fault → Answer
answer_to_commit s next request None = answer.Committed next.revision (identity_given next request)
answer_to_commit s next request (Some fault) = answer.Refused (record { revision = s.revision; fault = fault })

abbrev pub state_committed : State → Request → State
state_committed s request = state_with s request (fault_of s request)

abbrev pub commit_answer : State → Request → Answer
commit_answer s request =
    answer_to_commit s (state_committed s request) request (fault_of s request)

-- ---- queries

abbrev pub answer_at_endpoint : Options → State → Query → Option Endpoint → Answer
answer_at_endpoint options s query None = answer.NoEndpoint s.revision
answer_at_endpoint options s query (Some endpoint) =
    answer.Verdict s.revision (verdict_for options s query endpoint)

abbrev pub look_answer : Options → State → Query → Answer
look_answer options s query = answer_at_endpoint options s query (endpoint_of query.endpoint s.endpoints)

abbrev pub answer_with_trace : State → Option Trace → Answer
answer_with_trace s None = answer.NoEndpoint s.revision
answer_with_trace s (Some trace) = answer.Traced s.revision trace

abbrev pub trace_answer : Options → State → Query → Answer
trace_answer options s query = answer_with_trace s (explain_of options s query)

-- ---- lines

-- the answer to a line in a state and a phase
abbrev pub answer_in : Options → State → ℕ → Reading → Answer
answer_in options s phase (Err fault) = answer.BadLine fault
answer_in options s phase (Ok (command.Commit session request)) = commit_answer s request
answer_in options s phase (Ok (command.Look session query)) = look_answer options s query
answer_in options s phase (Ok (command.Trace session query)) = trace_answer options s query
answer_in options s phase (Ok (command.Sync session)) = answer.Synced s.revision []
answer_in options s phase (Ok command.Phase) = answer.Phase phase

-- the state that a line leaves
abbrev pub state_then : State → Reading → State
state_then s (Err fault) = s
state_then s (Ok (command.Commit session request)) = state_committed s request
state_then s (Ok (command.Look session query)) = s
state_then s (Ok (command.Trace session query)) = s
state_then s (Ok (command.Sync session)) = s
state_then s (Ok command.Phase) = s

-- the answers to lines, from a state and a phase on
abbrev pub answers_from : Options → State → ℕ → List Reading → List Answer
answers_from options s phase [] = []
answers_from options s phase (reading ∷ readings) =
    answer_in options s phase reading ∷ answers_from options (state_then s reading) (phase_after phase reading) readings

-- the answers to the lines of a script
abbrev pub serial_answers : Options → List Reading → List Answer
serial_answers options readings = answers_from options (start options) 1 readings
