-- An answer that is given in input order is right, kind by kind.
use Rattle.std.proofs.Common.{◌≡◌, ◌≢◌, ℕ, ◌+◌, ◌-◌, ◌≤◌, not, true, false, Bool, IsTrue, List, [], Contains, bytes_eq, Option, None, Some, Ok, Err, refl, sym, ◌∙◌, subst, arith}
use Rattle.std.specs.List.{AllByRecursion}
use Rattle.pol_mapkey.specs.declared.Word.{Word}
use Rattle.pol_model.specs.State.{State}
use Rattle.pol_model.specs.After.{after}
use Rattle.pol_model.specs.Committed.{identity_given}
use Rattle.pol_model.specs.Commits.{IsRefusedIn}
use Rattle.pol_model.specs.Endpoints.{endpoint_of}
use Rattle.pol_model.specs.Explain.{explain_of}
use Rattle.pol_model.specs.Fault.{fault_of}
use Rattle.pol_model.specs.PolicyMap.{map_size}
use Rattle.pol_model.specs.Remote.{verdict_for}
use Rattle.pol_model.specs.declared.answer.Fault.{Fault}
use Rattle.pol_model.specs.declared.answer.FullSlot.{FullSlot}
use Rattle.pol_model.specs.declared.answer.Refused.{Refused}
use Rattle.pol_model.specs.declared.answer.Trace.{Trace}
use Rattle.pol_model.specs.declared.options.Options.{Options}
use Rattle.pol_model.specs.declared.request.Query.{Query}
use Rattle.pol_model.specs.declared.request.Request.{Request}
use Rattle.pol_model.specs.declared.row.Endpoint.{Endpoint}
use Rattle.pol_model.specs.FullRows.{fits_limit}
use Rattle.pol_answer.specs.declared.answer.Answer.{Answer}
use Rattle.pol_answer.specs.declared.answer.Answer.TheVariants as answer
use Rattle.pol_script.specs.declared.command.Command.TheVariants as command
use Rattle.pol_run.specs.Spots.{Reading, Spot, stands_before}
use Rattle.pol_run.specs.History.{state_at}
use Rattle.pol_run.specs.Moments.{IsMoment, revisions_in}
use Rattle.pol_run.specs.Endpoints.{IsLive, IsVerdictFor, VerdictAnswers, SyncAnswers}
use Rattle.pol_run.specs.RightAnswer.{RightAnswer, IsRightCommit, IsRightRefusal, IsRightVerdict, IsRightNotYet, IsRightNoEndpoint, IsRightTrace, IsRightSync, IsTooLarge}
use Rattle.pol_run.specs.Serial.{state_then, state_with}
use Rattle.pol_run.specs.SerialLines.{Seen, Shown, MapFits, SerialAnswer, IsNextCommit, IsVerdictNow, IsNotYetNow, IsNoEndpointNow, IsTraceNow, IsSyncNow}
use Rattle.pol_run.proofs.Lists.{every_contained}
use Rattle.pol_run.proofs.States.{IsAddedBy, every_found}
use Rattle.pol_run.proofs.Walk.{IsPast}

-- What is known at a line of a run: the revision is a moment, the state is that of the revision, each
-- live endpoint was added by then, and what the lines before it showed was seen.
pub record IsHere (options : Options) (spots : List Spot) (s : State) (seen : Seen) (spot : Spot) : Type 0 where
  pub moment : IsMoment spots spot s.revision
  pub now : state_at options spots s.revision ≡ s
  pub then : state_at options spots (state_then s spot.reading).revision ≡ state_then s spot.reading
  pub young : AllByRecursion (IsAddedBy s.revision) s.endpoints
  pub synced : seen.synced ≤ s.revision
  pub past : (other : Spot) → Contains spots other → IsTrue (stands_before other spot)
      → IsPast options spots s spot.index spot.phase seen other

-- ---- what earlier lines showed

printed_verdict : (options : Options) (spots : List Spot) (reading : Reading) (answer : Answer) (name : List ℕ) (added revision limit : ℕ)
    → VerdictAnswers options spots reading answer name added revision → AllByRecursion (λ k. k ≤ limit) (revisions_in answer) → revision ≤ limit
printed_verdict options spots (Ok (command.Look session query)) (answer.Verdict at_revision word) name added revision limit verdict printed =
    omega (arith, verdict.1, printed.0)
printed_verdict options spots reading other name added revision limit verdict printed = absurd verdict

sync_since : (answer : Answer) (name : List ℕ) (added revision : ℕ) → SyncAnswers answer name added revision → added ≤ revision
sync_since (answer.Synced at_revision full) name added revision sync = sync.1
sync_since other name added revision sync = absurd sync

-- a map that fits isn't too large
fits_or_not : (fits : Bool) → IsTrue fits → IsTrue (not fits) → ⊥
fits_or_not true fits too_large = absurd (cc)
fits_or_not false fits too_large = absurd (cc)

-- ---- kind by kind

module _ (options : Options) (spots : List Spot) (s : State) where
  right_commit : (request : Request) (revision : ℕ) (printed : Option ℕ)
      → state_at options spots s.revision ≡ s → state_at options spots (s.revision + 1) ≡ after s request
      → IsNextCommit s request revision printed → IsRightCommit options spots request revision printed
  right_commit request revision printed now next serial =
      let before : revision - 1 ≡ s.revision = omega (arith, serial.next) in
      record {
        no_fault = subst (λ (r : ℕ). fault_of (state_at options spots r) request ≡ None) (sym before)
            (subst (λ (t : State). fault_of t request ≡ None) (sym now) serial.no_fault);
        identity = subst (λ (r : ℕ). printed ≡ identity_given (state_at options spots r) request) (sym serial.next)
            (subst (λ (t : State). printed ≡ identity_given t request) (sym next) serial.identity);
      }

  committed_then : (request : Request) → fault_of s request ≡ None
      → state_at options spots (state_with s request (fault_of s request)).revision ≡ state_with s request (fault_of s request)
      → state_at options spots (s.revision + 1) ≡ after s request
  committed_then request none then =
      subst (λ (f : Option Fault). state_at options spots (state_with s request f).revision ≡ state_with s request f) none then

  live_now : (name : List ℕ) (endpoint : Endpoint) → state_at options spots s.revision ≡ s
      → endpoint_of name s.endpoints ≡ Some endpoint → IsLive options spots s.revision name endpoint
  live_now name endpoint now live =
      record { found = subst (λ (t : State). endpoint_of name t.endpoints ≡ Some endpoint) (sym now) live }

  no_map_too_large : (name : List ℕ) (added : ℕ) → state_at options spots s.revision ≡ s
      → AllByRecursion (MapFits options s) s.endpoints → IsTooLarge options spots name added s.revision → ⊥
  no_map_too_large name added now fit large =
      let live : endpoint_of name s.endpoints ≡ Some large.endpoint =
      subst (λ (t : State). endpoint_of name t.endpoints ≡ Some large.endpoint) now large.live.found in
      fits_or_not (fits_limit options.map_max (map_size options s large.endpoint))
      (every_found (MapFits options s) (λ (endpoint : Endpoint). bytes_eq endpoint.name name) s.endpoints large.endpoint fit live)
      (subst (λ (t : State). IsTrue (not (fits_limit options.map_max (map_size options t large.endpoint)))) now large.too_many)

module _ (options : Options) (spots : List Spot) (s : State) (seen : Seen) (spot : Spot) (here : IsHere options spots s seen spot) where
  right_refusal : (request : Request) (refused : Refused)
      → IsRefusedIn s request refused → IsRightRefusal options spots spot request refused
  right_refusal request refused serial = record {
    moment = subst (λ (r : ℕ). IsMoment spots spot r) (sym serial.revision) here.moment;
    fault = subst (λ (r : ℕ). fault_of (state_at options spots r) request ≡ Some refused.fault) (sym serial.revision)
        (subst (λ (t : State). fault_of t request ≡ Some refused.fault) (sym here.now) serial.fault);
  }

  added_by : (name : List ℕ) (endpoint : Endpoint) → endpoint_of name s.endpoints ≡ Some endpoint → endpoint.added ≤ s.revision
  added_by name endpoint live =
      every_found (IsAddedBy s.revision) (λ (x : Endpoint). bytes_eq x.name name) s.endpoints endpoint here.young live

  -- no line before has shown a map that is newer than the present revision
  verdict_bound : (other : Spot) (name : List ℕ) (added revision : ℕ) → IsPast options spots s spot.index spot.phase seen other
      → IsVerdictFor options spots other name added revision → revision ≤ s.revision
  verdict_bound other name added revision past verdict =
      printed_verdict options spots other.reading other.answer name added revision s.revision verdict.verdict past.printed

  verdict_here : (query : Query) (word : Word) → IsVerdictNow options s query s.revision word
      → IsRightVerdict options spots spot query s.revision word
  verdict_here query word serial = record {
    moment = s.revision;
    is_moment = here.moment;
    endpoint = serial.endpoint;
    live = live_now options spots s query.endpoint serial.endpoint here.now serial.live;
    since_added = added_by query.endpoint serial.endpoint serial.live;
    by_moment = omega arith;
    scan = subst (λ (t : State). word ≡ verdict_for options t query serial.endpoint) (sym here.now) serial.scan;
    fits = subst (λ (t : State). IsTrue (fits_limit options.map_max (map_size options t serial.endpoint))) (sym here.now) serial.fits;
    verdicts_seen = λ other revision listed before verdict.
        verdict_bound other query.endpoint serial.endpoint.added revision (here.past other listed before) verdict;
    syncs_seen = λ other revision listed before sync.
        omega (arith, here.synced, (here.past other listed before).syncs query.endpoint serial.endpoint.added revision sync);
  }

  right_verdict : (query : Query) (revision : ℕ) (word : Word) → IsVerdictNow options s query revision word
      → IsRightVerdict options spots spot query revision word
  right_verdict query revision word serial =
      subst (λ (r : ℕ). IsRightVerdict options spots spot query r word) (sym serial.now)
      (verdict_here query word
      (record { now = refl; endpoint = serial.endpoint; live = serial.live; scan = serial.scan; fits = serial.fits }))

  not_yet_here : (query : Query) → IsNotYetNow s seen query s.revision → IsRightNotYet options spots spot query s.revision
  not_yet_here query serial = record {
    is_moment = here.moment;
    endpoint = serial.endpoint;
    live = live_now options spots s query.endpoint serial.endpoint here.now serial.live;
    no_verdict = λ other revision listed before verdict.
        every_contained (λ (shown : Shown). shown.name ≡ query.endpoint → shown.added ≢ serial.endpoint.added) seen.shown
        (record { name = query.endpoint; added = serial.endpoint.added }) serial.no_verdict
        ((here.past other listed before).verdicts query.endpoint serial.endpoint.added revision verdict) refl refl;
    no_sync = λ other revision listed before sync.
        omega (
          arith,
          (here.past other listed before).syncs query.endpoint serial.endpoint.added revision sync,
          sync_since other.answer query.endpoint serial.endpoint.added revision sync.sync,
          serial.no_sync,
        );
  }

  right_not_yet : (query : Query) (revision : ℕ) → IsNotYetNow s seen query revision → IsRightNotYet options spots spot query revision
  right_not_yet query revision serial =
      subst (λ (r : ℕ). IsRightNotYet options spots spot query r) (sym serial.now)
      (not_yet_here query
      (record { now = refl; endpoint = serial.endpoint; live = serial.live; no_verdict = serial.no_verdict; no_sync = serial.no_sync }))

  right_no_endpoint : (query : Query) (revision : ℕ) → IsNoEndpointNow s query revision → IsRightNoEndpoint options spots spot query revision
  right_no_endpoint query revision serial =
      subst (λ (r : ℕ). IsRightNoEndpoint options spots spot query r) (sym serial.now) (record {
        is_moment = here.moment;
        absent = subst (λ (t : State). endpoint_of query.endpoint t.endpoints ≡ None) (sym here.now) serial.absent;
      })

  right_trace : (query : Query) (revision : ℕ) (trace : Trace) → IsTraceNow options s query revision trace
      → IsRightTrace options spots spot query revision trace
  right_trace query revision trace serial =
      subst (λ (r : ℕ). IsRightTrace options spots spot query r trace) (sym serial.now) (record {
        is_moment = here.moment;
        explains = subst (λ (t : State). explain_of options t query ≡ Some trace) (sym here.now) serial.explains;
      })

  sync_here : AllByRecursion (MapFits options s) s.endpoints → IsRightSync options spots spot s.revision []
  sync_here fit = record {
    is_moment = here.moment;
    rows = tt;
    ascend = tt;
    distinct = tt;
    complete = λ name added large.
        absurd (no_map_too_large options spots s name added here.now fit (large s.revision (omega arith) here.moment.allowed));
  }

  right_sync : (revision : ℕ) (full : List FullSlot) → IsSyncNow options s revision full → IsRightSync options spots spot revision full
  right_sync revision full serial =
      subst (λ (rows : List FullSlot). IsRightSync options spots spot revision rows) (sym serial.no_rows)
      (subst (λ (r : ℕ). IsRightSync options spots spot r []) (sym serial.now) (sync_here serial.all_fit))

  right_kind : (phase : ℕ) (reading : Reading) (answer : Answer) → spot.reading ≡ reading → spot.phase ≡ phase
      → SerialAnswer options s phase seen reading answer → RightAnswer options spots spot reading answer
  right_kind phase (Err fault) (answer.BadLine told) same turn serial = serial
  right_kind phase (Ok command.Phase) (answer.Phase number) same turn serial = serial ∙ sym turn
  right_kind phase (Ok (command.Commit session request)) (answer.Committed revision identity) same turn serial =
      right_commit options spots s request revision identity here.now
      (committed_then options spots s request serial.no_fault
      (subst (λ (r : Reading). state_at options spots (state_then s r).revision ≡ state_then s r) same here.then))
      serial
  right_kind phase (Ok (command.Commit session request)) (answer.Refused refused) same turn serial = right_refusal request refused serial
  right_kind phase (Ok (command.Sync session)) (answer.Synced revision full) same turn serial = right_sync revision full serial
  right_kind phase (Ok (command.Look session query)) (answer.Verdict revision word) same turn serial = right_verdict query revision word serial
  right_kind phase (Ok (command.Look session query)) (answer.NotYet revision) same turn serial = right_not_yet query revision serial
  right_kind phase (Ok (command.Look session query)) (answer.NoEndpoint revision) same turn serial = right_no_endpoint query revision serial
  right_kind phase (Ok (command.Trace session query)) (answer.Traced revision trace) same turn serial = right_trace query revision trace serial
  right_kind phase (Ok (command.Trace session query)) (answer.NoEndpoint revision) same turn serial = right_no_endpoint query revision serial
  right_kind phase reading other same turn serial = absurd serial

  -- the answer to the line is right
  pub right_answer : SerialAnswer options s spot.phase seen spot.reading spot.answer → RightAnswer options spots spot spot.reading spot.answer
  right_answer serial = right_kind spot.phase spot.reading spot.answer refl refl serial
