-- A history is legal exactly where each of its events may follow those before it.
use Rattle.std.proofs.Common.{zero, suc, ◌≡◌, ℕ, ◌<◌, ◌≤◌, inl, inr, List, [], ◌∷◌, ◌++◌, length, take, IfSome, Option, None, Some, refl, sym, ap, ◌∙◌, subst, arith, append-nil, append_assoc}
use Rattle.std.specs.List.{slice_get}
use Rattle.std.proofs.Math.Seq.{take-length}
use Rattle.std.proofs.lemmas.List.{length-take, length-take-le, take-append-le, take-take}
use Rattle.std.proofs.lemmas.Option.{slice_get_within}
use Rattle.pol_model.specs.PolicyMap.{policy_map, map_size}
use Rattle.pol_model.specs.State.{State}
use Rattle.pol_model.specs.declared.options.Options.{Options}
use Rattle.std.proofs.Common.{option_map}
use Rattle.pol_history.specs.declared.event.EndpointId.{EndpointId}
use Rattle.pol_history.specs.declared.event.HistoryEvent.{HistoryEvent}
use Rattle.pol_history.specs.declared.event.HistoryEvent.TheVariants as event
use Rattle.pol_history.specs.declared.event.LastReport.{LastReport}
use Rattle.pol_history.specs.Commits.{live_endpoint, revision_of}
use Rattle.pol_history.specs.Legal.{IsLegal}
use Rattle.pol_history.specs.MayFollow.{EachMayFollow, FollowOn, MayFollow, ReportMayFollow}
use Rattle.pol_history.specs.Reports.{IsLastReport, IsReport, Reports, last_report, map_at, size_at}
use Rattle.pol_history.proofs.Cuts.{state-cut, state-take}
use Rattle.pol_history.proofs.LastReports.{IsFound, Tells, found, told}
use Rattle.pol_history.proofs.Lists.{get_cases, get_seam, get_take}

-- each event may follow those before it, by index
abbrev pub FollowsAt : Options → List HistoryEvent → Type 0
FollowsAt options history = (i : ℕ) (event : HistoryEvent) → slice_get history i ≡ Some event → MayFollow options (take i history) event

-- ---- what a beginning of the history knows

pub map-take : (options : Options) (n : ℕ) (history : List HistoryEvent) (endpoint : EndpointId) (revision : ℕ) → revision ≤ revision_of (take n history)
    → map_at options history endpoint revision ≡ map_at options (take n history) endpoint revision
map-take options n history endpoint revision within =
    ap (λ (s : State). option_map (policy_map options s) (live_endpoint endpoint s)) (state-take options n history revision within)

pub size-take : (options : Options) (n : ℕ) (history : List HistoryEvent) (endpoint : EndpointId) (revision : ℕ) → revision ≤ revision_of (take n history)
    → size_at options history endpoint revision ≡ size_at options (take n history) endpoint revision
size-take options n history endpoint revision within =
    ap (λ (s : State). option_map (map_size options s) (live_endpoint endpoint s)) (state-take options n history revision within)

-- the maps of a beginning are those of the history
pub map-front : (options : Options) (front back : List HistoryEvent) (endpoint : EndpointId) (revision : ℕ) → revision ≤ revision_of front
    → map_at options (front ++ back) endpoint revision ≡ map_at options front endpoint revision
map-front options front back endpoint revision within =
    ap (λ (s : State). option_map (policy_map options s) (live_endpoint endpoint s)) (state-cut options front back revision within)

take_within : (history : List HistoryEvent) (i : ℕ) → i < length history → length (take i history) ≡ i
take_within history i below = length-take-le i history (omega arith)

-- a report of the first n events is one of the history, and the other way round
pub report_of_take : (history : List HistoryEvent) (n i : ℕ) (endpoint : EndpointId) (revision : ℕ) → i < n → IsReport (take n history) i endpoint revision
    → IsReport history i endpoint revision
report_of_take history n i endpoint revision below report =
    record { event = report.event; there = sym (get_take n history i below) ∙ report.there; reports = report.reports }

pub report_in_take : (history : List HistoryEvent) (n i : ℕ) (endpoint : EndpointId) (revision : ℕ) → i < n → IsReport history i endpoint revision
    → IsReport (take n history) i endpoint revision
report_in_take history n i endpoint revision below report =
    record { event = report.event; there = get_take n history i below ∙ report.there; reports = report.reports }

-- the last report of the first n events, in them and in the history
pub last_of_take : (history : List HistoryEvent) (n i : ℕ) (endpoint : EndpointId) (revision : ℕ)
    → IsLastReport (take n history) n i endpoint revision → IsLastReport history n i endpoint revision
last_of_take history n i endpoint revision last = record {
  report = report_of_take history n i endpoint revision last.among last.report;
  among = last.among;
  none_after = λ later other after among report. last.none_after later other after among (report_in_take history n later endpoint other among report);
}

pub last_in_take : (history : List HistoryEvent) (n i : ℕ) (endpoint : EndpointId) (revision : ℕ)
    → IsLastReport history n i endpoint revision → IsLastReport (take n history) n i endpoint revision
last_in_take history n i endpoint revision last = record {
  report = report_in_take history n i endpoint revision last.among last.report;
  among = last.among;
  none_after = λ later other after among report. last.none_after later other after among (report_of_take history n later endpoint other among report);
}

-- ---- from the index to the fold

module _ (options : Options) (history : List HistoryEvent) (legal : IsLegal options history) (i : ℕ) (below : i < length history) where
  -- what the endpoint's previous report asks, where the fold finds it
  previous : (endpoint : EndpointId) (revision : ℕ) → IsReport history i endpoint revision → (last : Option LastReport)
      → Tells (take i history) endpoint last → IfSome last (λ l. l.revision < revision) × IfSome last (λ l. l.commits ≤ revision)
  previous endpoint revision report None tells = (tt, tt)
  previous endpoint revision report (Some last) tells =
      let before : IsLastReport history i tells.place endpoint last.revision =
      last_of_take history i tells.place endpoint last.revision
      (subst (λ (n : ℕ). IsLastReport (take i history) n tells.place endpoint last.revision) (take_within history i below) tells.report) in
      let cut : take tells.place (take i history) ≡ take tells.place history = take-take tells.place i history (omega (arith, before.among)) in
      let commits : last.commits ≡ revision_of (take tells.place history) = tells.commits ∙ ap revision_of cut in
      let enough = legal.no_older_commits i tells.place endpoint revision last.revision report before in
      (legal.newer i tells.place endpoint revision last.revision report before, omega arith)

  report_follows : (endpoint : EndpointId) (revision : ℕ) → IsReport history i endpoint revision → ReportMayFollow options (take i history) endpoint revision
  report_follows endpoint revision report =
      let last = previous endpoint revision report (last_report endpoint (take i history)) (told (take i history) endpoint) in
      record {
        live = legal.live i endpoint revision report;
        committed = legal.committed i endpoint revision report;
        since_added = legal.since_added i endpoint revision report;
        newer = last.0;
        no_older_commits = last.1;
      }

  event_follows : (event : HistoryEvent) → slice_get history i ≡ Some event → MayFollow options (take i history) event
  event_follows (event.Commit pass number request) there =
      record { no_fault = legal.no_fault i pass number request there; next = legal.numbered i pass number request there }
  event_follows (event.Publish endpoint revision table) there =
      let report : IsReport history i endpoint revision = record { event = event.Publish endpoint revision table; there = there; reports = (refl, refl) } in
      record {
        report = report_follows endpoint revision report;
        canonical = sym (map-take options i history endpoint revision (legal.committed i endpoint revision report)) ∙ legal.table i endpoint revision table there;
        fits = legal.fits i endpoint revision table there;
      }
  event_follows (event.Blocked endpoint revision count) there =
      let report : IsReport history i endpoint revision = record { event = event.Blocked endpoint revision count; there = there; reports = (refl, refl) } in
      record {
        report = report_follows endpoint revision report;
        size = sym (size-take options i history endpoint revision (legal.committed i endpoint revision report)) ∙ legal.count i endpoint revision count there;
        too_many = legal.too_many i endpoint revision count there;
      }

pub legal_follows : (options : Options) (history : List HistoryEvent) → IsLegal options history → FollowsAt options history
legal_follows options history legal i event there =
    event_follows options history legal i (slice_get_within history i event there) event there

-- ---- from the fold to the index

report_of : (options : Options) (history : List HistoryEvent) (event : HistoryEvent) (endpoint : EndpointId) (revision : ℕ) → Reports event endpoint revision
    → MayFollow options history event → ReportMayFollow options history endpoint revision
report_of options history (event.Commit pass number request) endpoint revision reports may = absurd reports
report_of options history (event.Publish other at table) endpoint revision reports may =
    subst (λ (n : ℕ). ReportMayFollow options history endpoint n) reports.1
    (subst (λ (e : EndpointId). ReportMayFollow options history e at) reports.0 may.report)
report_of options history (event.Blocked other at count) endpoint revision reports may =
    subst (λ (n : ℕ). ReportMayFollow options history endpoint n) reports.1
    (subst (λ (e : EndpointId). ReportMayFollow options history e at) reports.0 may.report)

if_some : {X : Type 0} (o : Option X) (x : X) (P : X → Type 0) → o ≡ Some x → IfSome o P → P x
if_some o x P is held = subst (λ p. IfSome p P) is held

module _ (options : Options) (history : List HistoryEvent) (follows : FollowsAt options history) where
  may_report : (i : ℕ) (endpoint : EndpointId) (revision : ℕ) → IsReport history i endpoint revision → ReportMayFollow options (take i history) endpoint revision
  may_report i endpoint revision report =
      report_of options (take i history) report.event endpoint revision report.reports (follows i report.event report.there)

  found_before : (i j : ℕ) (endpoint : EndpointId) (revision previous : ℕ) → IsReport history i endpoint revision → IsLastReport history i j endpoint previous
      → IsFound (take i history) endpoint j previous (last_report endpoint (take i history))
  found_before i j endpoint revision previous report last =
      let below = slice_get_within history i report.event report.there in
      found (take i history) endpoint j previous
      (subst (λ (n : ℕ). IsLastReport (take i history) n j endpoint previous) (sym (take_within history i below))
      (last_in_take history i j endpoint previous last))

  pub follows_legal : IsLegal options history
  follows_legal = record {
    no_fault = λ i pass number request there. (follows i (event.Commit pass number request) there).no_fault;
    numbered = λ i pass number request there. (follows i (event.Commit pass number request) there).next;
    live = λ i endpoint revision report. (may_report i endpoint revision report).live;
    committed = λ i endpoint revision report. (may_report i endpoint revision report).committed;
    since_added = λ i endpoint revision report. (may_report i endpoint revision report).since_added;
    newer = λ i j endpoint revision previous report last.
        let before = found_before i j endpoint revision previous report last in
        let less : before.report.revision < revision =
        if_some (last_report endpoint (take i history)) before.report (λ l. l.revision < revision) before.found (may_report i endpoint revision report).newer in
        omega (arith, before.revision_is);
    no_older_commits = λ i j endpoint revision previous report last.
        let before = found_before i j endpoint revision previous report last in
        let enough : before.report.commits ≤ revision =
        if_some (last_report endpoint (take i history)) before.report (λ l. l.commits ≤ revision) before.found (may_report i endpoint revision report).no_older_commits in
        let commits : before.report.commits ≡ revision_of (take j history) =
        before.commits ∙ ap revision_of (take-take j i history (omega (arith, last.among))) in
        omega arith;
    table = λ i endpoint revision table there.
        let may = follows i (event.Publish endpoint revision table) there in
        map-take options i history endpoint revision may.report.committed ∙ may.canonical;
    fits = λ i endpoint revision table there. (follows i (event.Publish endpoint revision table) there).fits;
    count = λ i endpoint revision count there.
        let may = follows i (event.Blocked endpoint revision count) there in
        size-take options i history endpoint revision may.report.committed ∙ may.size;
    too_many = λ i endpoint revision count there. (follows i (event.Blocked endpoint revision count) there).too_many;
  }

-- ---- by recursion over the events

follow_on : (options : Options) (front later : List HistoryEvent)
    → ((i : ℕ) (event : HistoryEvent) → slice_get later i ≡ Some event → MayFollow options (front ++ take i later) event) → FollowOn options front later
follow_on options front [] follows = tt
follow_on options front (next ∷ later) follows = (
  subst (λ (h : List HistoryEvent). MayFollow options h next) (append-nil front) (follows 0 next refl),
  follow_on options (front ++ next ∷ []) later
      (λ i event there. subst (λ (h : List HistoryEvent). MayFollow options h event) (sym (append_assoc front (next ∷ []) (take i later)))
      (follows (suc i) event there)),
)

followed : (options : Options) (front later : List HistoryEvent) → FollowOn options front later
    → (i : ℕ) (event : HistoryEvent) → slice_get later i ≡ Some event → MayFollow options (front ++ take i later) event
followed options front [] each i event there = absurd (cc)
followed options front (next ∷ later) each zero event there =
    let same : next ≡ event = (cc) in
    subst (λ (e : HistoryEvent). MayFollow options (front ++ []) e) same (subst (λ (h : List HistoryEvent). MayFollow options h next) (sym (append-nil front)) each.0)
followed options front (next ∷ later) each (suc i) event there =
    subst (λ (h : List HistoryEvent). MayFollow options h event) (append_assoc front (next ∷ []) (take i later))
    (followed options (front ++ next ∷ []) later each.1 i event there)

pub legal_each : (options : Options) (history : List HistoryEvent) → IsLegal options history → EachMayFollow options history
legal_each options history legal = follow_on options [] history (legal_follows options history legal)

pub each_legal : (options : Options) (history : List HistoryEvent) → EachMayFollow options history → IsLegal options history
each_legal options history each = follows_legal options history (followed options [] history each)

-- ---- beginnings, and one event more

pub legal_take : (options : Options) (n : ℕ) (history : List HistoryEvent) → IsLegal options history → IsLegal options (take n history)
legal_take options n history legal =
    follows_legal options (take n history)
    (λ i event there.
    let below : i < n = omega (arith, slice_get_within (take n history) i event there, length-take n history) in
    subst (λ (h : List HistoryEvent). MayFollow options h event) (sym (take-take i n history (omega arith)))
    (legal_follows options history legal i event (sym (get_take n history i below) ∙ there)))

pub legal_front : (options : Options) (front back : List HistoryEvent) → IsLegal options (front ++ back) → IsLegal options front
legal_front options front back legal =
    subst (λ (h : List HistoryEvent). IsLegal options h) (take-append-le (length front) front back (omega arith) ∙ take-length front)
    (legal_take options (length front) (front ++ back) legal)

pub legal_more : (options : Options) (history : List HistoryEvent) (new : HistoryEvent) → IsLegal options history → MayFollow options history new
    → IsLegal options (history ++ new ∷ [])
legal_more options history new legal may =
    follows_legal options (history ++ new ∷ [])
    (λ i event there.
    elim (get_cases history new event i there) [
      | inl old ↦
          subst (λ (h : List HistoryEvent). MayFollow options h event) (sym (take-append-le i history (new ∷ []) (omega (arith, old.0))))
          (legal_follows options history legal i event old.1)
      | inr last ↦
          subst (λ (e : HistoryEvent). MayFollow options (take i (history ++ new ∷ [])) e) last.1
          (subst (λ (h : List HistoryEvent). MayFollow options h new)
          (sym (take-append-le i history (new ∷ []) (omega (arith, last.0)) ∙ ap (λ (n : ℕ). take n history) last.0 ∙ take-length history)) may)
    ])

pub legal_last : (options : Options) (history : List HistoryEvent) (new : HistoryEvent) → IsLegal options (history ++ new ∷ []) → MayFollow options history new
legal_last options history new legal =
    subst (λ (h : List HistoryEvent). MayFollow options h new)
    (take-append-le (length history) history (new ∷ []) (omega arith) ∙ take-length history)
    (legal_follows options (history ++ new ∷ []) legal (length history) new (get_seam history new []))
