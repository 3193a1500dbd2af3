-- One line after another: what is known where the lines before have been answered in input order.
use Rattle.std.proofs.Common.{◌≡◌, ℕ, ◌+◌, ◌≤◌, ◌<◌, List, [], ◌∷◌, ◌++◌, length, map, Contains, Option, Some, Ok, Err, refl, ap, sym, ◌∙◌, subst, arith}
use Rattle.std.specs.List.{AllByRecursion, cons_option}
use Rattle.std.proofs.lemmas.List.{map-append, length-map}
use Rattle.std.proofs.lemmas.List.Elements.{Contains-append_right}
use Rattle.pol_model.specs.State.{State}
use Rattle.pol_model.specs.After.{after_all, state_of, start}
use Rattle.pol_model.specs.Endpoints.{endpoint_of}
use Rattle.pol_model.specs.declared.answer.Fault.{Fault}
use Rattle.pol_model.specs.declared.answer.FullSlot.{FullSlot}
use Rattle.pol_model.specs.declared.options.Options.{Options}
use Rattle.pol_model.specs.declared.request.Request.{Request}
use Rattle.pol_model.specs.declared.row.Endpoint.{Endpoint}
use Rattle.pol_model.proofs.Histories.{state_of-revision}
use Rattle.pol_model_laws.proofs.Lives.{after_append}
use Rattle.pol_answer.specs.declared.answer.Answer.{Answer}
use Rattle.pol_answer.specs.declared.answer.Answer.TheVariants as answer
use Rattle.pol_script.specs.declared.command.Command.TheVariants as command
use Rattle.pol_run.specs.Spots.{Reading, Spot, phase_after}
use Rattle.pol_run.specs.History.{Commit, commits_of, state_at}
use Rattle.pol_run.specs.Moments.{revisions_in}
use Rattle.pol_run.specs.Endpoints.{IsVerdictFor, VerdictAnswers, IsSyncFor, SyncAnswers}
use Rattle.pol_run.specs.Serial.{state_then, state_with}
use Rattle.pol_run.specs.SerialLines.{Seen, Shown, SerialAnswer, seen_after, shown_by, shown_at}
use Rattle.pol_run.proofs.Lists.{every_weaker, every_append}
use Rattle.pol_run.proofs.Numbering.{IsCountedFrom, requests_in, history_front}
use Rattle.pol_run.proofs.Indices.{spot_at, line_cases, phase_later}
use Rattle.pol_run.proofs.Moments.{commits_append}

-- ---- what one answer prints and shows

module _ (options : Options) (s : State) (phase : ℕ) (seen : Seen) where
  -- it prints no revision later than that of the state which it leaves
  printed_now : (reading : Reading) (answer : Answer) → SerialAnswer options s phase seen reading answer
      → AllByRecursion (λ k. k ≤ (state_then s reading).revision) (revisions_in answer)
  printed_now (Err fault) (answer.BadLine told) serial = tt
  printed_now (Ok command.Phase) (answer.Phase number) serial = tt
  printed_now (Ok (command.Commit session request)) (answer.Committed revision identity) serial =
      subst (λ (f : Option Fault). AllByRecursion (λ k. k ≤ (state_with s request f).revision) (revision ∷ []))
      (sym serial.no_fault) ((omega (arith, serial.next)), tt)
  printed_now (Ok (command.Commit session request)) (answer.Refused refused) serial =
      subst (λ (f : Option Fault). AllByRecursion (λ k. k ≤ (state_with s request f).revision) (refused.revision ∷ []))
      (sym serial.fault) ((omega (arith, serial.revision)), tt)
  printed_now (Ok (command.Sync session)) (answer.Synced revision full) serial =
      subst (λ (rows : List FullSlot). AllByRecursion (λ k. k ≤ s.revision) (revision ∷ map (λ row. row.revision) rows))
      (sym serial.no_rows) ((omega (arith, serial.now)), tt)
  printed_now (Ok (command.Look session query)) (answer.Verdict revision word) serial = ((omega (arith, serial.now)), tt)
  printed_now (Ok (command.Look session query)) (answer.NotYet revision) serial = ((omega (arith, serial.now)), tt)
  printed_now (Ok (command.Look session query)) (answer.NoEndpoint revision) serial = ((omega (arith, serial.now)), tt)
  printed_now (Ok (command.Trace session query)) (answer.Traced revision trace) serial = ((omega (arith, serial.now)), tt)
  printed_now (Ok (command.Trace session query)) (answer.NoEndpoint revision) serial = ((omega (arith, serial.now)), tt)
  printed_now reading other serial = absurd serial

  -- the newest `synced` revision grows, and is one that was reached
  synced_grows : (reading : Reading) (answer : Answer) → seen.synced ≤ s.revision
      → SerialAnswer options s phase seen reading answer → seen.synced ≤ (seen_after s seen reading answer).synced
  synced_grows (Ok (command.Sync session)) (answer.Synced revision full) bound serial = omega (arith, serial.now)
  synced_grows reading (answer.Synced revision full) bound serial = absurd serial
  synced_grows reading other bound serial = omega arith

  synced_reached : (reading : Reading) (answer : Answer) → seen.synced ≤ s.revision
      → SerialAnswer options s phase seen reading answer → (seen_after s seen reading answer).synced ≤ s.revision
  synced_reached (Ok (command.Sync session)) (answer.Synced revision full) bound serial = omega (arith, serial.now)
  synced_reached reading (answer.Synced revision full) bound serial = absurd serial
  synced_reached reading other bound serial = bound

  -- a `synced` line is the newest
  sync_seen : (reading : Reading) (answer : Answer) (name : List ℕ) (added revision : ℕ)
      → SyncAnswers answer name added revision → revision ≤ (seen_after s seen reading answer).synced
  sync_seen reading (answer.Synced at_revision full) name added revision sync = omega (arith, sync.0)
  sync_seen reading other name added revision sync = absurd sync

  -- what was shown stays shown
  shown_kept : (reading : Reading) (answer : Answer) (shown : Shown)
      → Contains seen.shown shown → Contains (seen_after s seen reading answer).shown shown
  shown_kept reading (answer.Verdict revision word) shown listed = Contains-append_right (shown_by s reading) seen.shown shown listed
  shown_kept reading other shown listed = listed

  revision_grows : (index : ℕ) (reading : Reading) (answer : Answer) → SerialAnswer options s phase seen reading answer
      → s.revision ≤ (state_then s reading).revision
  revision_grows index reading answer serial =
      line_cases options s phase seen index reading answer (λ c next. s.revision ≤ next.revision)
      (omega arith) (λ request revision printed right. omega arith) serial

  -- the state is that after the line's commit, if it makes one
  commits_next : (index : ℕ) (reading : Reading) (answer : Answer) → SerialAnswer options s phase seen reading answer
      → state_then s reading ≡ after_all s (requests_in (commits_of (spot_at index phase reading answer ∷ [])))
  commits_next index reading answer serial =
      line_cases options s phase seen index reading answer (λ c next. next ≡ after_all s (requests_in (cons_option c [])))
      refl (λ request revision printed right. refl) serial

shown_found : (asked : List ℕ) (found : Option Endpoint) (others : List Shown) (name : List ℕ) (added : ℕ) (endpoint : Endpoint)
    → found ≡ Some endpoint → endpoint.added ≡ added → asked ≡ name
    → Contains (shown_at asked found ++ others) (record { name = name; added = added })
shown_found asked found others name added endpoint is_found same named =
    subst (λ (x : Option Endpoint). Contains (shown_at asked x ++ others) (record { name = name; added = added }))
    (sym is_found) (0, (omega arith), cc)

-- a verdict line shows a map of the endpoint that it is for
verdict_shown : (options : Options) (spots : List Spot) (s : State) (phase : ℕ) (seen : Seen) (reading : Reading) (answer : Answer)
    (name : List ℕ) (added revision : ℕ) → state_at options spots s.revision ≡ s → SerialAnswer options s phase seen reading answer
    → VerdictAnswers options spots reading answer name added revision
    → Contains (seen_after s seen reading answer).shown (record { name = name; added = added })
verdict_shown options spots s phase seen (Ok (command.Look session query)) (answer.Verdict at_revision word) name added revision now serial verdict =
    let same : revision ≡ s.revision = sym verdict.1 ∙ serial.now in
    let live = verdict.2.live.found in
    let there : endpoint_of name s.endpoints ≡ Some verdict.2.endpoint =
    subst (λ (t : State). endpoint_of name t.endpoints ≡ Some verdict.2.endpoint) now
    (subst (λ (r : ℕ). endpoint_of name (state_at options spots r).endpoints ≡ Some verdict.2.endpoint) same live) in
    let asked : endpoint_of query.endpoint s.endpoints ≡ Some verdict.2.endpoint =
    subst (λ (n : List ℕ). endpoint_of n s.endpoints ≡ Some verdict.2.endpoint) (sym verdict.0) there in
    shown_found query.endpoint (endpoint_of query.endpoint s.endpoints) seen.shown name added verdict.2.endpoint asked verdict.2.same verdict.0
verdict_shown options spots s phase seen reading other name added revision now serial verdict = absurd verdict

-- ---- the lines so far

-- A line before this index and in no later phase: what it printed and showed.
pub record IsPast (options : Options) (spots : List Spot) (s : State) (here now : ℕ) (seen : Seen) (other : Spot) : Type 0 where
  pub index : other.index < here
  pub phase : other.phase ≤ now
  pub printed : AllByRecursion (λ k. k ≤ s.revision) (revisions_in other.answer)
  pub verdicts : (name : List ℕ) (added revision : ℕ) → IsVerdictFor options spots other name added revision
      → Contains seen.shown (record { name = name; added = added })
  pub syncs : (name : List ℕ) (added revision : ℕ) → IsSyncFor other name added revision → revision ≤ seen.synced

-- The lines in front led to this state, and these maps were seen.
pub record IsWalked (options : Options) (spots : List Spot) (s : State) (here now : ℕ) (seen : Seen) (front : List Spot) : Type 0 where
  pub reached : s ≡ state_of options (requests_in (commits_of front))
  pub synced : seen.synced ≤ s.revision
  pub past : AllByRecursion (IsPast options spots s here now seen) front

module _ (options : Options) (spots : List Spot) (s : State) (here now : ℕ) (seen : Seen) (front : List Spot) where
  -- the commits in front are as many as the revision
  pub walked_count : IsWalked options spots s here now seen front → length (commits_of front) ≡ s.revision
  walked_count walked =
      omega (
        arith,
        ap (λ (x : State). x.revision) walked.reached,
        state_of-revision options (requests_in (commits_of front)),
        length-map (commits_of front) (λ c. c.request),
      )

  -- the state at that revision is this one
  pub walked_state : (back : List Spot) → spots ≡ front ++ back → IsCountedFrom 0 (commits_of spots)
      → IsWalked options spots s here now seen front → state_at options spots s.revision ≡ s
  walked_state back split counted walked =
      let commits : commits_of spots ≡ commits_of front ++ commits_of back =
      ap (λ (xs : List Spot). commits_of xs) split ∙ commits_append front back in
      ap (λ (r : ℕ). state_at options spots r) (sym (walked_count walked))
      ∙ ap (λ (requests : List Request). state_of options requests) (history_front spots (commits_of front) (commits_of back) commits counted)
      ∙ sym walked.reached

-- ---- one line more

module _ (options : Options) (spots : List Spot) (s : State) (seen : Seen) (spot : Spot)
    (serial : SerialAnswer options s spot.phase seen spot.reading spot.answer) where
  next_reached : (front : List Spot) → s ≡ state_of options (requests_in (commits_of front))
      → state_then s spot.reading ≡ state_of options (requests_in (commits_of (front ++ spot ∷ [])))
  next_reached front reached =
      let more = requests_in (commits_of (spot ∷ [])) in
      commits_next options s spot.phase seen spot.index spot.reading spot.answer serial
      ∙ ap (λ (x : State). after_all x more) reached
      ∙ sym (after_append (start options) (requests_in (commits_of front)) more)
      ∙ ap (λ (requests : List Request). state_of options requests) (sym (map-append (λ c. c.request) (commits_of front) (commits_of (spot ∷ []))))
      ∙ ap (λ (cs : List Commit). state_of options (requests_in cs)) (sym (commits_append front (spot ∷ [])))

  past_later : (other : Spot) → seen.synced ≤ s.revision → IsPast options spots s spot.index spot.phase seen other
      → IsPast options spots (state_then s spot.reading) (spot.index + 1) (phase_after spot.phase spot.reading)
      (seen_after s seen spot.reading spot.answer) other
  past_later other bound past =
      let grows = revision_grows options s spot.phase seen spot.index spot.reading spot.answer serial in
      record {
        index = omega (arith, past.index);
        phase = omega (arith, past.phase, phase_later spot.phase spot.reading);
        printed = every_weaker (λ k. k ≤ s.revision) (λ k. k ≤ (state_then s spot.reading).revision)
            (λ k (h : k ≤ s.revision). omega (arith, grows)) (revisions_in other.answer) past.printed;
        verdicts = λ name added revision verdict.
            shown_kept options s spot.phase seen spot.reading spot.answer (record { name = name; added = added }) (past.verdicts name added revision verdict);
        syncs = λ name added revision sync.
            omega (arith, past.syncs name added revision sync, synced_grows options s spot.phase seen spot.reading spot.answer bound serial);
      }

  past_here : state_at options spots s.revision ≡ s
      → IsPast options spots (state_then s spot.reading) (spot.index + 1) (phase_after spot.phase spot.reading)
      (seen_after s seen spot.reading spot.answer) spot
  past_here now = record {
    index = omega arith;
    phase = phase_later spot.phase spot.reading;
    printed = printed_now options s spot.phase seen spot.reading spot.answer serial;
    verdicts = λ name added revision verdict.
        verdict_shown options spots s spot.phase seen spot.reading spot.answer name added revision now serial verdict.verdict;
    syncs = λ name added revision sync. sync_seen options s spot.phase seen spot.reading spot.answer name added revision sync.sync;
  }

  pub walk_on : (front : List Spot) → state_at options spots s.revision ≡ s → IsWalked options spots s spot.index spot.phase seen front
      → IsWalked options spots (state_then s spot.reading) (spot.index + 1) (phase_after spot.phase spot.reading)
      (seen_after s seen spot.reading spot.answer) (front ++ spot ∷ [])
  walk_on front now walked =
      let next = state_then s spot.reading in
      let later = phase_after spot.phase spot.reading in
      let more = seen_after s seen spot.reading spot.answer in
      record {
        reached = next_reached front walked.reached;
        synced = omega (
          arith,
          synced_reached options s spot.phase seen spot.reading spot.answer walked.synced serial,
          revision_grows options s spot.phase seen spot.index spot.reading spot.answer serial,
        );
        past = every_append (IsPast options spots next (spot.index + 1) later more) front (spot ∷ [])
            (every_weaker (IsPast options spots s spot.index spot.phase seen) (IsPast options spots next (spot.index + 1) later more)
            (λ other past. past_later other walked.synced past) front walked.past)
            (past_here now, tt);
      }
