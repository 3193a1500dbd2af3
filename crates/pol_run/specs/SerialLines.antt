-- Lines that are answered in input order: each from the state after the commits of the lines before it, at
-- the newest revision. A query may be answered `notyet` as long as no map of its endpoint was shown.
use Rattle.std.specs.Prelude.{⊤, ◌≡◌, ◌≢◌, ℕ, ◌+◌, ◌<◌, List, [], ◌∷◌, ◌++◌, IsTrue, Option, None, Some, Ok, Err}
use Rattle.std.specs.List.{AllByRecursion}
use Rattle.pol_mapkey.specs.declared.Word.{Word}
use Rattle.pol_model.specs.State.{State}
use Rattle.pol_model.specs.After.{start, after}
use Rattle.pol_model.specs.Committed.{identity_given}
use Rattle.pol_model.specs.Commits.{IsRefusedIn}
use Rattle.pol_model.specs.Endpoints.{endpoint_of}
use Rattle.pol_model.specs.Explain.{explain_of}
use Rattle.pol_model.specs.Fault.{fault_of}
use Rattle.pol_model.specs.PolicyMap.{map_size}
use Rattle.pol_model.specs.Remote.{verdict_for}
use Rattle.pol_model.specs.declared.answer.FullSlot.{FullSlot}
use Rattle.pol_model.specs.declared.answer.Trace.{Trace}
use Rattle.pol_model.specs.declared.options.Options.{Options}
use Rattle.pol_model.specs.declared.request.Query.{Query}
use Rattle.pol_model.specs.declared.request.Request.{Request}
use Rattle.pol_model.specs.declared.row.Endpoint.{Endpoint}
use Rattle.pol_model.specs.FullRows.{fits_limit}
use Rattle.pol_answer.specs.declared.answer.Answer.{Answer}
use Rattle.pol_answer.specs.declared.answer.Answer.TheVariants as answer
use Rattle.pol_script.specs.declared.command.Command.TheVariants as command
use Rattle.pol_run.specs.Spots.{Reading, phase_after}
use Rattle.pol_run.specs.Serial.{state_then}

-- ---- which maps were shown

-- an endpoint: its name, and the revision that added it
pub record Shown : Type 0 where
  pub name : List ℕ
  pub added : ℕ

-- what the lines so far have shown
pub record Seen : Type 0 where
  -- the revision of the newest `synced` line, 0 where there is none
  pub synced : ℕ
  -- the endpoints that verdict lines were for
  pub shown : List Shown

-- before the first line
abbrev pub nothing_seen : Seen
nothing_seen = record { synced = 0; shown = [] }

-- the live endpoint of the name, where there is one
abbrev pub shown_at : List ℕ → Option Endpoint → List Shown
shown_at name None = []
shown_at name (Some endpoint) = record { name = name; added = endpoint.added } ∷ []

-- the endpoint that a verdict on this line is for
abbrev pub shown_by : State → Reading → List Shown
shown_by s (Ok (command.Look session query)) = shown_at query.endpoint (endpoint_of query.endpoint s.endpoints)
shown_by s other = []

-- what was seen once a line has this answer: a verdict shows a map of its endpoint, `synced` those of all
abbrev pub seen_after : State → Seen → Reading → Answer → Seen
seen_after s seen reading (answer.Verdict revision word) = record seen { shown = shown_by s reading ++ seen.shown }
seen_after s seen reading (answer.Synced revision full) = record seen { synced = revision }
seen_after s seen reading other = seen

-- ---- the answers, kind by kind

-- the endpoint's map may be published
abbrev pub MapFits : Options → State → Endpoint → Type 0
MapFits options s endpoint = IsTrue (fits_limit options.map_max (map_size options s endpoint))

-- `ok k`: the request has no fault, k is the next revision, and the printed number is the one that it gives
pub record IsNextCommit (s : State) (request : Request) (revision : ℕ) (printed : Option ℕ) : Type 0 where
  pub no_fault : fault_of s request ≡ None
  pub next : revision ≡ s.revision + 1
  pub identity : printed ≡ identity_given (after s request) request

-- a verdict at R: by a scan of all rules, for a live endpoint whose map may be published
pub record IsVerdictNow (options : Options) (s : State) (query : Query) (revision : ℕ) (word : Word) : Type 0 where
  pub now : revision ≡ s.revision
  pub endpoint : Endpoint
  pub live : endpoint_of query.endpoint s.endpoints ≡ Some endpoint
  pub scan : word ≡ verdict_for options s query endpoint
  pub fits : MapFits options s endpoint

-- `notyet at k`: the endpoint is live, no verdict line was for it, and no `synced` line came since it was added
pub record IsNotYetNow (s : State) (seen : Seen) (query : Query) (revision : ℕ) : Type 0 where
  pub now : revision ≡ s.revision
  pub endpoint : Endpoint
  pub live : endpoint_of query.endpoint s.endpoints ≡ Some endpoint
  pub no_verdict : AllByRecursion (λ shown. shown.name ≡ query.endpoint → shown.added ≢ endpoint.added) seen.shown
  pub no_sync : seen.synced < endpoint.added

-- `noendpoint at k`: no endpoint of that name is live
pub record IsNoEndpointNow (s : State) (query : Query) (revision : ℕ) : Type 0 where
  pub now : revision ≡ s.revision
  pub absent : endpoint_of query.endpoint s.endpoints ≡ None

-- a trace at k: the explanation
pub record IsTraceNow (options : Options) (s : State) (query : Query) (revision : ℕ) (trace : Trace) : Type 0 where
  pub now : revision ≡ s.revision
  pub explains : explain_of options s query ≡ Some trace

-- `synced k` without a row: the map of each live endpoint may be published
pub record IsSyncNow (options : Options) (s : State) (revision : ℕ) (full : List FullSlot) : Type 0 where
  pub now : revision ≡ s.revision
  pub no_rows : full ≡ []
  pub all_fit : AllByRecursion (MapFits options s) s.endpoints

-- ---- lines

-- An answer to a line in a state and a phase, where these maps were seen.
abbrev pub SerialAnswer : Options → State → ℕ → Seen → Reading → Answer → Type 0
SerialAnswer options s phase seen (Err fault) (answer.BadLine told) = told ≡ fault
SerialAnswer options s phase seen (Ok command.Phase) (answer.Phase number) = number ≡ phase
SerialAnswer options s phase seen (Ok (command.Commit session request)) (answer.Committed revision identity) =
    IsNextCommit s request revision identity
SerialAnswer options s phase seen (Ok (command.Commit session request)) (answer.Refused refused) =
    IsRefusedIn s request refused
SerialAnswer options s phase seen (Ok (command.Sync session)) (answer.Synced revision full) =
    IsSyncNow options s revision full
SerialAnswer options s phase seen (Ok (command.Look session query)) (answer.Verdict revision word) =
    IsVerdictNow options s query revision word
SerialAnswer options s phase seen (Ok (command.Look session query)) (answer.NotYet revision) =
    IsNotYetNow s seen query revision
SerialAnswer options s phase seen (Ok (command.Look session query)) (answer.NoEndpoint revision) =
    IsNoEndpointNow s query revision
SerialAnswer options s phase seen (Ok (command.Trace session query)) (answer.Traced revision trace) =
    IsTraceNow options s query revision trace
SerialAnswer options s phase seen (Ok (command.Trace session query)) (answer.NoEndpoint revision) =
    IsNoEndpointNow s query revision
SerialAnswer options s phase seen reading other = ⊥

-- Lines that are answered in input order, from a state and a phase on, where these maps were seen before.
abbrev pub IsSerialFrom : Options → State → ℕ → Seen → List (Reading × Answer) → Type 0
IsSerialFrom options s phase seen [] = ⊤
IsSerialFrom options s phase seen (line ∷ lines) =
    SerialAnswer options s phase seen line.0 line.1
    × IsSerialFrom options (state_then s line.0) (phase_after phase line.0) (seen_after s seen line.0 line.1) lines

-- the lines of a whole run, answered in input order
abbrev pub IsSerial : Options → List (Reading × Answer) → Type 0
IsSerial options lines = IsSerialFrom options (start options) 1 nothing_seen lines
