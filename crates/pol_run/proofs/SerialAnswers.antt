-- The answers in input order by the state alone are such lines, where maps have no limit.
use Rattle.std.proofs.Common.{◌≡◌, ℕ, suc, List, [], ◌∷◌, length, zip, Option, None, Some, option_map, IsTrue, Ok, Err, refl, ap, sym, ◌∙◌, subst}
use Rattle.std.specs.List.{AllByRecursion}
use Rattle.std.proofs.lemmas.List.{length-map}
use Rattle.pol_model.specs.State.{State}
use Rattle.pol_model.specs.After.{start}
use Rattle.pol_model.specs.Endpoints.{endpoint_of}
use Rattle.pol_model.specs.Explain.{explain_of, explain_for}
use Rattle.pol_model.specs.Fault.{fault_of}
use Rattle.pol_model.specs.PolicyMap.{map_size}
use Rattle.pol_model.specs.declared.answer.Fault.{Fault}
use Rattle.pol_model.specs.declared.answer.Trace.{Trace}
use Rattle.pol_model.specs.declared.options.Options.{Options}
use Rattle.pol_model.specs.declared.request.Query.{Query}
use Rattle.pol_model.specs.declared.request.Request.{Request}
use Rattle.pol_model.specs.declared.row.Endpoint.{Endpoint}
use Rattle.pol_model.specs.FullRows.{fits_limit}
use Rattle.pol_script.specs.Lines.{lines_of}
use Rattle.pol_script.specs.Reading.{reading_of}
use Rattle.pol_answer.specs.Text.{texts_of}
use Rattle.pol_script.specs.declared.command.Command.TheVariants as command
use Rattle.pol_run.specs.Spots.{Reading, phase_after}
use Rattle.pol_run.specs.Run.{IsRunOf, readings_of, status_of}
use Rattle.pol_run.specs.Serial.{state_with, answer_to_commit, answer_at_endpoint, answer_with_trace, answer_in, state_then, answers_from, serial_answers}
use Rattle.pol_run.specs.SerialLines.{Seen, nothing_seen, seen_after, MapFits, SerialAnswer, IsSerialFrom, IsSerial}
use Rattle.pol_run.proofs.SerialLaw.{serial_run}

-- without a limit every map may be published
map_fits : (options : Options) (s : State) (endpoint : Endpoint) → options.map_max ≡ None → MapFits options s endpoint
map_fits options s endpoint free = subst (λ (limit : Option ℕ). IsTrue (fits_limit limit (map_size options s endpoint))) (sym free) refl

all_maps_fit : (options : Options) (s : State) (endpoints : List Endpoint) → options.map_max ≡ None
    → AllByRecursion (MapFits options s) endpoints
all_maps_fit options s [] free = tt
all_maps_fit options s (endpoint ∷ endpoints) free = (map_fits options s endpoint free, all_maps_fit options s endpoints free)

commit_line : (options : Options) (s : State) (phase : ℕ) (seen : Seen) (session : ℕ) (request : Request) (fault : Option Fault)
    → fault_of s request ≡ fault
    → SerialAnswer options s phase seen (Ok (command.Commit session request)) (answer_to_commit s (state_with s request fault) request fault)
commit_line options s phase seen session request None is = record { no_fault = is; next = refl; identity = refl }
commit_line options s phase seen session request (Some fault) is = record { revision = refl; fault = is }

look_line : (options : Options) (s : State) (phase : ℕ) (seen : Seen) (session : ℕ) (query : Query) (found : Option Endpoint)
    → options.map_max ≡ None → endpoint_of query.endpoint s.endpoints ≡ found
    → SerialAnswer options s phase seen (Ok (command.Look session query)) (answer_at_endpoint options s query found)
look_line options s phase seen session query None free is = record { now = refl; absent = is }
look_line options s phase seen session query (Some endpoint) free is =
    record { now = refl; endpoint = endpoint; live = is; scan = refl; fits = map_fits options s endpoint free }

-- there is no explanation only where there is no endpoint
unexplained : (options : Options) (s : State) (query : Query) (found : Option Endpoint)
    → option_map (explain_for options s query) found ≡ None → found ≡ None
unexplained options s query None none = refl
unexplained options s query (Some endpoint) none = absurd (cc)

trace_line : (options : Options) (s : State) (phase : ℕ) (seen : Seen) (session : ℕ) (query : Query) (trace : Option Trace)
    → explain_of options s query ≡ trace → SerialAnswer options s phase seen (Ok (command.Trace session query)) (answer_with_trace s trace)
trace_line options s phase seen session query None is =
    record { now = refl; absent = unexplained options s query (endpoint_of query.endpoint s.endpoints) is }
trace_line options s phase seen session query (Some trace) is = record { now = refl; explains = is }

-- the answer to a line in a state
answered_line : (options : Options) (s : State) (phase : ℕ) (seen : Seen) (reading : Reading)
    → options.map_max ≡ None → SerialAnswer options s phase seen reading (answer_in options s phase reading)
answered_line options s phase seen (Err fault) free = refl
answered_line options s phase seen (Ok (command.Commit session request)) free =
    commit_line options s phase seen session request (fault_of s request) refl
answered_line options s phase seen (Ok (command.Look session query)) free =
    look_line options s phase seen session query (endpoint_of query.endpoint s.endpoints) free refl
answered_line options s phase seen (Ok (command.Trace session query)) free =
    trace_line options s phase seen session query (explain_of options s query) refl
answered_line options s phase seen (Ok (command.Sync session)) free =
    record { now = refl; no_rows = refl; all_fit = all_maps_fit options s s.endpoints free }
answered_line options s phase seen (Ok command.Phase) free = refl

answered_lines : (options : Options) (s : State) (phase : ℕ) (seen : Seen) (readings : List Reading)
    → options.map_max ≡ None → IsSerialFrom options s phase seen (zip readings (answers_from options s phase readings))
answered_lines options s phase seen [] free = tt
answered_lines options s phase seen (reading ∷ readings) free =
    let more = seen_after s seen reading (answer_in options s phase reading) in (
      answered_line options s phase seen reading free,
      answered_lines options (state_then s reading) (phase_after phase reading) more readings free,
    )

-- the answers are given in input order
pub serial_answers_lines : (options : Options) (readings : List Reading) → options.map_max ≡ None
    → IsSerial options (zip readings (serial_answers options readings))
serial_answers_lines options readings free = answered_lines options (start options) 1 nothing_seen readings free

answers_length : (options : Options) (s : State) (phase : ℕ) (readings : List Reading)
    → length (answers_from options s phase readings) ≡ length readings
answers_length options s phase [] = refl
answers_length options s phase (reading ∷ readings) =
    ap (λ (n : ℕ). suc n) (answers_length options (state_then s reading) (phase_after phase reading) readings)

-- so they are a run, with its text and its status
pub serial_answers_run : (options : Options) (script : List ℕ) → options.map_max ≡ None
    → IsRunOf options script (texts_of (serial_answers options (readings_of script))) (status_of (serial_answers options (readings_of script)))
serial_answers_run options script free =
    let answers = serial_answers options (readings_of script) in
    record {
      answers = answers;
      one_each = answers_length options (start options) 1 (readings_of script) ∙ length-map (lines_of script) reading_of;
      text = refl;
      run = serial_run options (zip (readings_of script) answers) (serial_answers_lines options (readings_of script) free);
      status = refl;
    }
