-- Which answer a query has in input order, and the history of a run of a generated script.
use Rattle.std.proofs.Common.{◌≡◌, ℕ, zero, suc, ◌+◌, Bool, if◌then◌else◌, List, [], ◌∷◌, ◌++◌, length, map, take, drop, zip, slice_get, None, Some, Ok, refl, sym, ap, ◌∙◌, subst}
use Rattle.std.proofs.lemmas.Bool.{eq-eqb}
use Rattle.std.proofs.lemmas.List.{take-append-drop, take_at}
use Rattle.std.proofs.lemmas.List.Elements.{filter_map-append}
use Rattle.pol_answer.specs.declared.answer.Answer.{Answer}
use Rattle.pol_answer.specs.declared.answer.Answer.TheVariants as answer
use Rattle.pol_gen.specs.Generated.{generated}
use Rattle.pol_history.specs.Commits.{Lives, commits_in, if_added, live_endpoint, state_after}
use Rattle.pol_history.specs.declared.event.EndpointId.{EndpointId}
use Rattle.pol_history.specs.declared.event.HistoryEvent.{HistoryEvent}
use Rattle.pol_model.proofs.Histories.{state_of-revision}
use Rattle.pol_model.specs.After.{after, start, state_of}
use Rattle.pol_model.specs.Endpoints.{endpoint_of}
use Rattle.pol_model.specs.Fault.{fault_of}
use Rattle.pol_model.specs.Remote.{verdict_for}
use Rattle.pol_model.specs.State.{State}
use Rattle.pol_model.specs.declared.options.Options.{Options}
use Rattle.pol_model.specs.declared.request.Query.{Query}
use Rattle.pol_model.specs.declared.request.Request.{Request}
use Rattle.pol_model.specs.declared.row.Endpoint.{Endpoint}
use Rattle.pol_run_laws.specs.HistoryOfRun.{IsHistoryOf}
use Rattle.pol_run.specs.ByIndex.{IsLine}
use Rattle.pol_run.specs.History.{history_of}
use Rattle.pol_run.specs.Run.{readings_of}
use Rattle.pol_run.specs.Serial.{answers_from, look_answer}
use Rattle.pol_run.specs.Spots.{Line, Reading, spots_of}
use Rattle.pol_script.specs.declared.command.Command.{Command}
use Rattle.pol_script.specs.declared.command.Command.TheVariants as command
use Rattle.pol_generated.specs.Asked.{asked}
use Rattle.pol_generated.specs.HistoryOfRounds.{IsHistoryOfRounds}
use Rattle.pol_generated.specs.Maps.{HasRoom, most_entries}
use Rattle.pol_generated.specs.OneRun.{IsRunOfRounds}
use Rattle.pol_generated.specs.Requests.{request_in, requests_asked, requests_in}
use Rattle.pol_generated.proofs.Faultless.{asked_plays}
use Rattle.pol_generated.proofs.OneRun.{found_answer}
use Rattle.pol_generated.proofs.Plays.{Plays, behind, committed_state}
use Rattle.pol_generated.proofs.Script.{lines_are_read}
use Rattle.pol_generated.proofs.ScriptRun.{rounds_go_on}

-- ---- in input order

-- command i, a query, is answered by the verdict behind the commands before it
pub record IsAnswered (options : Options) (s : State) (phase : ℕ) (commands : List Command) (i session : ℕ) (query : Query) : Type 0 where
  pub endpoint : Endpoint
  pub live : endpoint_of query.endpoint (behind s (take i commands)).endpoints ≡ Some endpoint
  pub line : IsLine (zip (map Ok commands) (answers_from options s phase (map Ok commands))) i (Ok (command.Look session query))
      (answer.Verdict (behind s (take i commands)).revision (verdict_for options (behind s (take i commands)) query endpoint))

pub answered_at : (options : Options) (s : State) (phase : ℕ) (commands : List Command) (i session : ℕ) (query : Query) → Plays s commands
    → slice_get commands i ≡ Some (command.Look session query) → IsAnswered options s phase commands i session query
answered_at options s phase [] i session query plays there = absurd cc
answered_at options s phase (command.Look own asks ∷ others) zero session query plays there =
    let sessions : own ≡ session = cc in
    let same : asks ≡ query = cc in
    let live : endpoint_of query.endpoint s.endpoints ≡ Some plays.0.0 = subst (λ (q : Query). endpoint_of q.endpoint s.endpoints ≡ Some plays.0.0) same plays.0.1 in
    record {
      endpoint = plays.0.0;
      live = live;
      line = record {
        there = λ j. Some (Ok (command.Look (sessions j) (same j)), (ap (λ (q : Query). look_answer options s q) same ∙ found_answer options s query plays.0.0 live) j);
      };
    }
answered_at options s phase (other ∷ others) zero session query plays there = absurd cc
answered_at options s phase (command.Commit own request ∷ others) (suc i) session query plays there =
    let rest = answered_at options (after s request) phase others i session query plays.1 there in
    let t = behind (after s request) (take i others) in
    let line =
    subst (λ (next : State). IsLine (zip (map Ok others) (answers_from options next phase (map Ok others))) i (Ok (command.Look session query))
    (answer.Verdict t.revision (verdict_for options t query rest.endpoint)))
    (sym (committed_state s request (fault_of s request) plays.0.no_fault)) rest.line in
    record { endpoint = rest.endpoint; live = rest.live; line = record { there = line.there } }
answered_at options s phase (command.Look own asks ∷ others) (suc i) session query plays there =
    let rest = answered_at options s phase others i session query plays.1 there in
    record { endpoint = rest.endpoint; live = rest.live; line = record { there = rest.line.there } }
answered_at options s phase (command.Trace own asks ∷ others) (suc i) session query plays there =
    let rest = answered_at options s phase others i session query plays.1 there in
    record { endpoint = rest.endpoint; live = rest.live; line = record { there = rest.line.there } }
answered_at options s phase (command.Sync own ∷ others) (suc i) session query plays there =
    let rest = answered_at options s phase others i session query plays there in
    record { endpoint = rest.endpoint; live = rest.live; line = record { there = rest.line.there } }
answered_at options s phase (command.Phase ∷ others) (suc i) session query plays there =
    let rest = answered_at options s (phase + 1) others i session query plays there in
    record { endpoint = rest.endpoint; live = rest.live; line = record { there = rest.line.there } }

-- the requests of a beginning
requests_taken : (commands : List Command) (i : ℕ) → take (length (requests_in (take i commands))) (requests_in commands) ≡ requests_in (take i commands)
requests_taken commands i =
    let front = requests_in (take i commands) in
    let both : requests_in commands ≡ front ++ requests_in (drop i commands) =
    ap (λ (cs : List Command). requests_in cs) (sym (take-append-drop i commands)) ∙ filter_map-append request_in (take i commands) (drop i commands) in
    ap (take (length front)) both ∙ take_at front (requests_in (drop i commands)) (length front) refl

-- the row of an endpoint that is found by its name
live_row : (query : Query) (s : State) (row : Endpoint) → endpoint_of query.endpoint s.endpoints ≡ Some row
    → live_endpoint (record { name = query.endpoint; added = row.added }) s ≡ Some row
live_row query s row found =
    ap (if_added row.added) found ∙ ap (λ (b : Bool). if b then Some row else None) (eq-eqb row.added row.added refl)

-- ---- the history

pub holds_rounds : (options : Options) (n : ℕ) (answers : List Answer) (history : List HistoryEvent) → HasRoom most_entries options
    → IsRunOfRounds options n answers → IsHistoryOf options history (zip (readings_of (generated n)) answers) → IsHistoryOfRounds options n history
holds_rounds options n answers history room run is =
    let commands = asked n in
    let read : readings_of (generated n) ≡ map Ok commands = lines_are_read n in
    let lines = zip (map Ok commands) answers in
    let same : zip (readings_of (generated n)) answers ≡ lines = ap (λ (readings : List Reading). zip readings answers) read in
    let goes = rounds_go_on options n answers room run in
    let all : commits_in history ≡ requests_asked n =
    is.commits ∙ ap (λ (xs : List Line). history_of (spots_of xs)) same ∙ goes.rest_is in
    record {
      commits = all;
      verdicts = λ i session query there.
          let front = take i commands in
          let revision = length (requests_in front) in
          let at = answered_at options (start options) 1 commands i session query (asked_plays options n) there in
          let number : (behind (start options) front).revision ≡ revision = state_of-revision options (requests_in front) in
          let word = verdict_for options (behind (start options) front) query at.endpoint in
          let states : state_after options history revision ≡ behind (start options) front =
          ap (λ (requests : List Request). state_of options requests) (ap (take revision) all ∙ requests_taken commands i) in
          let endpoint : EndpointId = record { name = query.endpoint; added = at.endpoint.added } in
          let lives : Lives (state_after options history revision) endpoint =
          record { row = at.endpoint; found = ap (live_endpoint endpoint) states ∙ live_row query (behind (start options) front) at.endpoint at.live } in
          let answered : IsLine lines i (Ok (command.Look session query)) (answer.Verdict (behind (start options) front).revision word) =
          subst (λ (told : List Answer). IsLine (zip (map Ok commands) told) i (Ok (command.Look session query)) (answer.Verdict (behind (start options) front).revision word))
          (sym goes.answers_are) at.line in
          let line : IsLine (zip (readings_of (generated n)) answers) i (Ok (command.Look session query)) (answer.Verdict revision word) =
          subst (λ (xs : List Line). IsLine xs i (Ok (command.Look session query)) (answer.Verdict revision word)) (sym same)
          (subst (λ (k : ℕ). IsLine lines i (Ok (command.Look session query)) (answer.Verdict k word)) number answered) in
          record { endpoint = endpoint; named = refl; lives = lives; published = is.verdicts i session query revision word endpoint line refl lives };
    }
