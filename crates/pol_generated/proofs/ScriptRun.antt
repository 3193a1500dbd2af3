-- A generated script is of commands that have one run.
use Rattle.std.proofs.Common.{◌≡◌, ℕ, zero, suc, ◌+◌, ◌*◌, ◌%◌, ◌<◌, ◌≤◌, ◌==◌, Bool, true, false, cond, List, [], ◌∷◌, ◌++◌, length, map, take, zip, slice_get, Option, Some, Ok, refl, sym, ap, ◌∙◌, subst, arith}
use Rattle.std.specs.List.{AllByRecursion, flat_map, range_with_len}
use Rattle.std.proofs.lemmas.List.{length-map}
use Rattle.std.proofs.lemmas.Option.{same_Some}
use Rattle.pol_answer.specs.declared.answer.Answer.{Answer}
use Rattle.pol_data.proofs.Every.{every-append}
use Rattle.pol_model_laws.proofs.StateLaws.{keeps-after, keeps-start}
use Rattle.pol_model_laws.specs.Keeps.{Keeps}
use Rattle.pol_model_laws.specs.WithoutFaults.{CommitFrom}
use Rattle.pol_gen.specs.Draws.{after as after_draws, drawn}
use Rattle.pol_gen.specs.Generated.{draws_before, generated}
use Rattle.pol_model.specs.After.{after, after_all, start}
use Rattle.pol_model.specs.PolicyMap.{map_size}
use Rattle.pol_model.specs.State.{State}
use Rattle.pol_model.specs.declared.options.Options.{Options}
use Rattle.pol_model.specs.declared.request.Request.{Request}
use Rattle.pol_model.specs.declared.row.Endpoint.{Endpoint}
use Rattle.pol_run.specs.ByIndex.{IsOf}
use Rattle.pol_run.specs.History.{history_of}
use Rattle.pol_run.specs.Run.{IsRun, readings_of}
use Rattle.pol_run.specs.Serial.{serial_answers}
use Rattle.pol_run.specs.Spots.{Line, Reading, spots_of}
use Rattle.pol_run.proofs.InShort.{run_in_short}
use Rattle.pol_run.proofs.ShortNumbers.{short_history}
use Rattle.pol_script.specs.Lines.{lines_of}
use Rattle.pol_script.specs.Reading.{reading_of}
use Rattle.pol_script.specs.declared.command.Command.{Command}
use Rattle.pol_script.specs.declared.command.Command.TheVariants as command
use Rattle.pol_generated.specs.Asked as asked
use Rattle.pol_generated.specs.Maps.{HasRoom, MapsAreSmall, most_entries}
use Rattle.pol_generated.specs.OneRun.{IsRunOfRounds}
use Rattle.pol_generated.specs.Requests.{requests_asked, requests_in}
use Rattle.pol_generated.proofs.Faultless.{asked_plays, requests_commit}
use Rattle.pol_generated.proofs.InTurn.{none_counted}
use Rattle.pol_generated.proofs.OneRun.{FitsIn, GoesOn, IsOfOne, StandsBehindSync, goes_on}
use Rattle.pol_generated.proofs.Plays.{Plays}
use Rattle.pol_generated.proofs.Script.{below, lines_are_read}
use Rattle.pol_generated.proofs.ScriptStates.{IsScriptPolicy, IsScriptRequest, IsScriptState, script_after, script_start}
use Rattle.pol_generated.proofs.SmallMaps.{small_map}

-- ---- which commands there are

-- a request of the script, a query or a synchronisation, of session 1
abbrev pub IsScriptCommand : Command → Type 0
IsScriptCommand (command.Commit session request) = (session ≡ 1) × IsScriptRequest request
IsScriptCommand (command.Look session query) = session ≡ 1
IsScriptCommand (command.Trace session query) = ⊥
IsScriptCommand (command.Sync session) = session ≡ 1
IsScriptCommand command.Phase = ⊥

-- what holds of each piece of the script: its commands, and that they may stand behind a `sync` or not
pub record IsPiece (commands : List Command) : Type 0 where
  pub each : AllByRecursion IsScriptCommand commands
  pub stands : (synced : Bool) → StandsBehindSync synced commands

stands_more : (front back : List Command) (synced : Bool) → StandsBehindSync synced front → ((later : Bool) → StandsBehindSync later back)
    → StandsBehindSync synced (front ++ back)
stands_more [] back synced first second = second synced
stands_more (command.Commit session request ∷ front) back synced first second = stands_more front back false first second
stands_more (command.Look session query ∷ front) back synced first second = (first.0, stands_more front back synced first.1 second)
stands_more (command.Sync session ∷ front) back synced first second = stands_more front back true first second
stands_more (other ∷ front) back synced first second = absurd first

both_pieces : (front back : List Command) → IsPiece front → IsPiece back → IsPiece (front ++ back)
both_pieces front back first second = record {
  each = every-append IsScriptCommand front back first.each second.each;
  stands = λ synced. stands_more front back synced (first.stands synced) second.stands;
}

all_pieces : (commands : ℕ → List Command) → ((i : ℕ) → IsPiece (commands i)) → (a n : ℕ) → IsPiece (flat_map commands (range_with_len a n))
all_pieces commands each a zero = record { each = tt; stands = λ synced. tt }
all_pieces commands each a (suc n) =
    both_pieces (commands a) (flat_map commands (range_with_len (a + 1) n)) (each a) (all_pieces commands each (a + 1) n)

endpoint_piece : (x i : ℕ) → IsPiece (asked.endpoint_command i (after_draws i x) ∷ [])
endpoint_piece x i = record { each = ((refl, (drawn 0 (after_draws i x) 8, refl)), tt); stands = λ synced. tt }

-- behind the `sync`, a verdict each
verdicts_each : (x a n : ℕ) → let verdicts = flat_map (λ (i : ℕ). asked.verdict_command i (after_draws (2 * i) x) ∷ []) (range_with_len a n) in
    AllByRecursion IsScriptCommand verdicts × StandsBehindSync true verdicts
verdicts_each x a zero = (tt, tt)
verdicts_each x a (suc n) = let others = verdicts_each x (a + 1) n in ((refl, others.0), (refl, others.1))

check_piece : (x : ℕ) → IsPiece (asked.check x)
check_piece x = let verdicts = verdicts_each x 0 32 in record { each = (refl, verdicts.0); stands = λ synced. verdicts.1 }

no_piece : IsPiece []
no_piece = record { each = tt; stands = λ synced. tt }

check_where : (b : Bool) (x : ℕ) → IsPiece (cond b (asked.check x) [])
check_where true x = check_piece x
check_where false x = no_piece

no_check_where : (b : Bool) (x : ℕ) → IsPiece (cond b [] (asked.check x))
no_check_where true x = no_piece
no_check_where false x = check_piece x

ruled : (name app section from first last : ℕ) → name < 64
    → IsScriptPolicy (record { key = asked.policy_key name; rules = asked.rule_of app section (asked.entry_of from first last) ∷ [] })
ruled name app section from first last low =
    record { name = name; low = low; denies = section == 0; app = app; from = from; first = first; last = last; is = refl }

apply_piece : (x : ℕ) → IsPiece (asked.apply_command x ∷ [])
apply_piece x =
    let port = drawn 3 x 1024 + 1 in
    record {
      each = ((refl, ruled (drawn 0 x 64) (drawn 1 x 8) (drawn 5 x 4) (drawn 2 x 8) port (port + drawn 4 x 100) (below 0 x 64 (omega arith))), tt);
      stands = λ synced. tt;
    }

round_piece : (n round : ℕ) → IsPiece (asked.round_commands n round)
round_piece n round =
    both_pieces (asked.apply_command (after_draws (draws_before round) n) ∷ []) (asked.check_behind n round) (apply_piece (after_draws (draws_before round) n))
    (check_where ((round + 1) % 10 == 0) (after_draws (draws_before round + 6) n))

pub asked_piece : (n : ℕ) → IsPiece (asked.asked n)
asked_piece n =
    let first = asked.endpoints n in
    let rounds = flat_map (asked.round_commands n) (range_with_len 0 n) in
    both_pieces (first ++ rounds) (asked.last_check n)
    (both_pieces first rounds (all_pieces (λ i. asked.endpoint_command i (after_draws i n) ∷ []) (endpoint_piece n) 0 32)
    (all_pieces (asked.round_commands n) (round_piece n) 0 n))
    (no_check_where (n % 10 == 0) (after_draws (draws_before n) n))

-- ---- its maps are small

script_requests : (commands : List Command) → AllByRecursion IsScriptCommand commands → AllByRecursion IsScriptRequest (requests_in commands)
script_requests [] all = tt
script_requests (command.Commit session request ∷ others) all = (all.0.1, script_requests others all.1)
script_requests (command.Look session query ∷ others) all = script_requests others all.1
script_requests (command.Sync session ∷ others) all = script_requests others all.1
script_requests (other ∷ others) all = absurd all.0

small_behind : (options : Options) (s : State) (requests : List Request) (k : ℕ) (endpoint : Endpoint) → Keeps s → IsScriptState s
    → CommitFrom s requests → AllByRecursion IsScriptRequest requests → map_size options (after_all s (take k requests)) endpoint ≤ most_entries
small_behind options s requests zero endpoint keeps is commit all = small_map options s endpoint keeps is
small_behind options s [] (suc k) endpoint keeps is commit all = small_map options s endpoint keeps is
small_behind options s (request ∷ others) (suc k) endpoint keeps is commit all =
    small_behind options (after s request) others k endpoint (keeps-after s request keeps commit.0) (script_after s request all.0 is) commit.1 all.1

pub maps_small : (options : Options) (n : ℕ) → MapsAreSmall options n
maps_small options n revision endpoint =
    small_behind options (start options) (requests_asked n) revision endpoint (keeps-start options) (script_start options) (requests_commit options n)
    (script_requests (asked.asked n) (asked_piece n).each)

pub fits_script : (options : Options) (s : State) (commands : List Command) → Keeps s → IsScriptState s → Plays s commands
    → AllByRecursion IsScriptCommand commands → FitsIn options most_entries s commands
fits_script options s [] keeps is plays all = tt
fits_script options s (command.Commit session request ∷ others) keeps is plays all =
    fits_script options (after s request) others (keeps-after s request keeps plays.0) (script_after s request all.0.1 is) plays.1 all.1
fits_script options s (command.Look session query ∷ others) keeps is plays all =
    ((λ endpoint. small_map options s endpoint keeps is), fits_script options s others keeps is plays.1 all.1)
fits_script options s (command.Sync session ∷ others) keeps is plays all =
    ((λ endpoint. small_map options s endpoint keeps is), fits_script options s others keeps is plays all.1)
fits_script options s (other ∷ others) keeps is plays all = absurd all.0

-- ---- it has one run

of_one : (command : Command) → IsScriptCommand command → IsOfOne command
of_one (command.Commit session request) is = is.0
of_one (command.Look session query) is = is
of_one (command.Sync session) is = is
of_one other is = absurd is

all_own : (commands : List Command) (answers : List Answer) → AllByRecursion IsScriptCommand commands
    → (i : ℕ) (reading : Reading) (told : Answer) → ◌≡◌ {A = Option Line} (slice_get (zip (map Ok commands) answers) i) (Some (reading, told)) → IsOf 1 reading
all_own [] answers all i reading told there = absurd cc
all_own (first ∷ others) [] all i reading told there = absurd cc
all_own (first ∷ others) (a ∷ answers) all zero reading told there =
    let same : Ok first ≡ reading = ap (λ (line : Line). line.0) (same_Some {A = Line} (Ok first, a) (reading, told) there) in
    subst (λ (r : Reading). IsOf 1 r) same (of_one first all.0)
all_own (first ∷ others) (a ∷ answers) all (suc i) reading told there = all_own others answers all.1 i reading told there

-- its run goes as its commands do: the answers are those in input order, and the history is of its requests
pub rounds_go_on : (options : Options) (n : ℕ) (answers : List Answer) → HasRoom most_entries options → IsRunOfRounds options n answers
    → GoesOn options (start options) 1 (asked.asked n) answers (history_of (spots_of (zip (map Ok (asked.asked n)) answers)))
rounds_go_on options n answers room run =
    let piece = asked_piece n in
    let read : readings_of (generated n) ≡ map Ok (asked.asked n) = lines_are_read n in
    let lines = zip (map Ok (asked.asked n)) answers in
    let long : length answers ≡ length (asked.asked n) =
    run.one_each ∙ sym (length-map (lines_of (generated n)) reading_of) ∙ ap {B = ℕ} length read ∙ length-map (asked.asked n) Ok in
    let same : zip (readings_of (generated n)) answers ≡ lines = ap (λ (readings : List Reading). zip readings answers) read in
    let right : IsRun options (spots_of lines) = subst (λ (xs : List Line). IsRun options (spots_of xs)) same run.run in
    let short = run_in_short options lines right in
    subst (λ (requests : List Request). GoesOn options (start options) 1 (asked.asked n) answers requests) (short_history options lines short)
    (goes_on options lines short (λ i reading told line. all_own (asked.asked n) answers piece.each i reading told line.there) most_entries room
    (asked.asked n) answers 0 0 1 (start options) false long refl (none_counted lines) refl refl tt (asked_plays options n) (piece.stands false)
    (fits_script options (start options) (asked.asked n) (keeps-start options) (script_start options) (asked_plays options n) piece.each))

pub one_run : (options : Options) (n : ℕ) (answers : List Answer) → HasRoom most_entries options → IsRunOfRounds options n answers
    → answers ≡ serial_answers options (readings_of (generated n))
one_run options n answers room run =
    let goes = rounds_go_on options n answers room run in
    goes.answers_are ∙ ap (λ (readings : List Reading). serial_answers options readings) (sym (lines_are_read n))
