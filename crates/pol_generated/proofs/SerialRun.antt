-- The answers in input order don't depend on the limit, and are a run of a generated script where maps have room.
use Rattle.std.proofs.Common.{◌≡◌, ℕ, suc, ◌≤◌, List, [], ◌∷◌, length, map, zip, Option, None, Some, Ok, Err, IsTrue, refl, sym, ap, ◌∙◌, subst, arith}
use Rattle.std.specs.Prelude.{IfSome}
use Rattle.std.specs.List.{AllByRecursion}
use Rattle.std.proofs.lemmas.Bool.{le-leb}
use Rattle.std.proofs.lemmas.List.{length-map}
use Rattle.pol_answer.specs.declared.answer.Answer.TheVariants as answer
use Rattle.pol_model_laws.proofs.StateLaws.{keeps-start}
use Rattle.pol_gen.specs.Generated.{generated}
use Rattle.pol_model.specs.After.{after, start}
use Rattle.pol_model.specs.Endpoints.{endpoint_of}
use Rattle.pol_model.specs.Fault.{fault_of}
use Rattle.pol_model.specs.PolicyMap.{map_size}
use Rattle.pol_model.specs.State.{State}
use Rattle.pol_model.specs.declared.answer.Fault.{Fault}
use Rattle.pol_model.specs.declared.options.Options.{Options}
use Rattle.pol_model.specs.declared.request.Query.{Query}
use Rattle.pol_model.specs.declared.request.Request.{Request}
use Rattle.pol_model.specs.declared.row.Endpoint.{Endpoint}
use Rattle.pol_model.specs.FullRows.{fits_limit}
use Rattle.pol_run.proofs.SerialLaw.{serial_run}
use Rattle.pol_run.specs.Run.{IsRun, readings_of}
use Rattle.pol_run.specs.Serial.{answer_at_endpoint, answer_in, answer_to_commit, answers_from, commit_answer, look_answer, serial_answers, state_then, state_with}
use Rattle.pol_run.specs.SerialLines.{IsSerial, IsSerialFrom, MapFits, Seen, SerialAnswer, nothing_seen, seen_after}
use Rattle.pol_run.specs.Spots.{Reading, phase_after, spots_of}
use Rattle.pol_script.specs.Lines.{lines_of}
use Rattle.pol_script.specs.Reading.{reading_of}
use Rattle.pol_script.specs.declared.command.Command.{Command}
use Rattle.pol_script.specs.declared.command.Command.TheVariants as command
use Rattle.pol_generated.specs.Asked as asked
use Rattle.pol_generated.specs.Maps.{HasRoom, most_entries}
use Rattle.pol_generated.specs.OneRun.{IsRunOfRounds}
use Rattle.pol_generated.proofs.Faultless.{asked_plays}
use Rattle.pol_generated.proofs.OneRun.{FitsIn}
use Rattle.pol_generated.proofs.Plays.{Plays, committed_state}
use Rattle.pol_generated.proofs.Script.{lines_are_read}
use Rattle.pol_generated.proofs.ScriptRun.{IsScriptCommand, asked_piece, fits_script}
use Rattle.pol_generated.proofs.ScriptStates.{script_start}

-- ---- whatever the limit

limit_at : (options : Options) (limit : Option ℕ) (s : State) (phase : ℕ) (reading : Reading)
    → answer_in (record options { map_max = limit }) s phase reading ≡ answer_in options s phase reading
limit_at options limit s phase (Err fault) = refl
limit_at options limit s phase (Ok (command.Commit session request)) = refl
limit_at options limit s phase (Ok (command.Look session query)) = refl
limit_at options limit s phase (Ok (command.Trace session query)) = refl
limit_at options limit s phase (Ok (command.Sync session)) = refl
limit_at options limit s phase (Ok command.Phase) = refl

limit_from : (options : Options) (limit : Option ℕ) (s : State) (phase : ℕ) (readings : List Reading)
    → answers_from (record options { map_max = limit }) s phase readings ≡ answers_from options s phase readings
limit_from options limit s phase [] = refl
limit_from options limit s phase (reading ∷ readings) =
    λ j. limit_at options limit s phase reading j ∷ limit_from options limit (state_then s reading) (phase_after phase reading) readings j

pub any_limit : (options : Options) (limit : Option ℕ) (readings : List Reading)
    → serial_answers (record options { map_max = limit }) readings ≡ serial_answers options readings
any_limit options limit readings = limit_from options limit (start options) 1 readings

-- ---- where maps have room

room_fits : (most size : ℕ) (limit : Option ℕ) → IfSome limit (λ l. most ≤ l) → size ≤ most → IsTrue (fits_limit limit size)
room_fits most size None room small = refl
room_fits most size (Some l) room small = le-leb size l (omega (arith, room, small))

map_fits : (options : Options) (most : ℕ) (s : State) (endpoint : Endpoint) → HasRoom most options → map_size options s endpoint ≤ most
    → MapFits options s endpoint
map_fits options most s endpoint room small = room_fits most (map_size options s endpoint) options.map_max room small

all_fit : (options : Options) (most : ℕ) (s : State) (endpoints : List Endpoint) → HasRoom most options
    → ((endpoint : Endpoint) → map_size options s endpoint ≤ most) → AllByRecursion (MapFits options s) endpoints
all_fit options most s [] room small = tt
all_fit options most s (endpoint ∷ endpoints) room small =
    (map_fits options most s endpoint room (small endpoint), all_fit options most s endpoints room small)

commit_line : (options : Options) (s : State) (phase : ℕ) (seen : Seen) (session : ℕ) (request : Request) (fault : Option Fault)
    → fault_of s request ≡ fault
    → SerialAnswer options s phase seen (Ok (command.Commit session request)) (answer_to_commit s (state_with s request fault) request fault)
commit_line options s phase seen session request None is = record { no_fault = is; next = refl; identity = refl }
commit_line options s phase seen session request (Some fault) is = record { revision = refl; fault = is }

look_line : (options : Options) (most : ℕ) (s : State) (phase : ℕ) (seen : Seen) (session : ℕ) (query : Query) (found : Option Endpoint)
    → HasRoom most options → ((endpoint : Endpoint) → map_size options s endpoint ≤ most) → endpoint_of query.endpoint s.endpoints ≡ found
    → SerialAnswer options s phase seen (Ok (command.Look session query)) (answer_at_endpoint options s query found)
look_line options most s phase seen session query None room small is = record { now = refl; absent = is }
look_line options most s phase seen session query (Some endpoint) room small is =
    record { now = refl; endpoint = endpoint; live = is; scan = refl; fits = map_fits options most s endpoint room (small endpoint) }

in_order : (options : Options) (most : ℕ) (s : State) (phase : ℕ) (seen : Seen) (commands : List Command) → HasRoom most options
    → Plays s commands → FitsIn options most s commands → AllByRecursion IsScriptCommand commands
    → IsSerialFrom options s phase seen (zip (map Ok commands) (answers_from options s phase (map Ok commands)))
in_order options most s phase seen [] room plays fits all = tt
in_order options most s phase seen (command.Commit session request ∷ others) room plays fits all =
    let later = seen_after s seen (Ok (command.Commit session request)) (commit_answer s request) in (
      commit_line options s phase seen session request (fault_of s request) refl,
      subst (λ (t : State). IsSerialFrom options t phase later (zip (map Ok others) (answers_from options t phase (map Ok others))))
          (sym (committed_state s request (fault_of s request) plays.0.no_fault)) (in_order options most (after s request) phase later others room plays.1 fits all.1),
    )
in_order options most s phase seen (command.Look session query ∷ others) room plays fits all = (
  look_line options most s phase seen session query (endpoint_of query.endpoint s.endpoints) room fits.0 refl,
  in_order options most s phase (seen_after s seen (Ok (command.Look session query)) (look_answer options s query)) others room plays.1 fits.1 all.1,
)
in_order options most s phase seen (command.Sync session ∷ others) room plays fits all = (
  record { now = refl; no_rows = refl; all_fit = all_fit options most s s.endpoints room fits.0 },
  in_order options most s phase (seen_after s seen (Ok (command.Sync session)) (answer.Synced s.revision [])) others room plays fits.1 all.1,
)
in_order options most s phase seen (other ∷ others) room plays fits all = absurd all.0

answers_length : (options : Options) (s : State) (phase : ℕ) (readings : List Reading) → length (answers_from options s phase readings) ≡ length readings
answers_length options s phase [] = refl
answers_length options s phase (reading ∷ readings) = ap suc (answers_length options (state_then s reading) (phase_after phase reading) readings)

pub serial_rounds : (options : Options) (n : ℕ) → HasRoom most_entries options → IsRunOfRounds options n (serial_answers options (readings_of (generated n)))
serial_rounds options n room =
    let commands = asked.asked n in
    let piece = asked_piece n in
    let order : IsSerial options (zip (map Ok commands) (serial_answers options (map Ok commands))) =
    in_order options most_entries (start options) 1 nothing_seen commands room (asked_plays options n)
    (fits_script options (start options) commands (keeps-start options) (script_start options) (asked_plays options n) piece.each) piece.each in
    record {
      one_each = answers_length options (start options) 1 (readings_of (generated n)) ∙ length-map (lines_of (generated n)) reading_of;
      run = subst (λ (readings : List Reading). IsRun options (spots_of (zip readings (serial_answers options readings)))) (sym (lines_are_read n))
          (serial_run options (zip (map Ok commands) (serial_answers options (map Ok commands))) order);
    }
