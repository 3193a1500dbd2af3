-- The last report of an endpoint, as the fold finds it, is its last report by the index of events.
use Rattle.std.proofs.Common.{◌≡◌, ◌≢◌, ℕ, ◌+◌, ◌<◌, ◌≤◌, ◌⊎◌, inl, inr, Bool, true, false, cond, List, [], ◌∷◌, ◌++◌, length, take, Option, None, Some, refl, sym, ap, ◌∙◌, subst, arith, length-append}
use Rattle.std.proofs.Math.Seq.{take-length}
use Rattle.std.proofs.lemmas.Bool.{cases_lt}
use Rattle.std.proofs.lemmas.List.{take-append-le}
use Rattle.std.proofs.lemmas.Option.{slice_get_within}
use Rattle.pol_history.specs.declared.event.EndpointId.{EndpointId}
use Rattle.pol_history.specs.declared.event.HistoryEvent.{HistoryEvent}
use Rattle.pol_history.specs.declared.event.HistoryEvent.TheVariants as event
use Rattle.pol_history.specs.declared.event.LastReport.{LastReport}
use Rattle.pol_history.specs.Commits.{revision_of, same_endpoint}
use Rattle.pol_history.specs.Reports.{IsLastReport, IsReport, Reports, last_report, report_after, report_after_all, published_before}
use Rattle.pol_history.proofs.Cuts.{revision-append}
use Rattle.pol_history.proofs.Lists.{by_growth, get_cases, get_front, get_seam}
use Rattle.pol_history.proofs.Same.{same_cases}

-- ---- the fold, one event more

report_more : (endpoint : EndpointId) (commits : ℕ) (last : Option LastReport) (history : List HistoryEvent) (new : HistoryEvent)
    → report_after_all endpoint commits last (history ++ new ∷ [])
    ≡ report_after endpoint (commits + revision_of history) (report_after_all endpoint commits last history) new
report_more endpoint commits last [] new = ap (λ (n : ℕ). report_after endpoint n last new) (omega arith)
report_more endpoint commits last (first ∷ later) new =
    report_more endpoint (commits + revision_of (first ∷ [])) (report_after endpoint commits last first) later new
    ∙ ap (λ (n : ℕ). report_after endpoint n (report_after_all endpoint commits last (first ∷ later)) new)
    (omega (arith, revision-append (first ∷ []) later))

pub last_report-more : (endpoint : EndpointId) (history : List HistoryEvent) (new : HistoryEvent)
    → last_report endpoint (history ++ new ∷ []) ≡ report_after endpoint (revision_of history) (last_report endpoint history) new
last_report-more endpoint history new =
    report_more endpoint 0 None history new ∙ ap (λ (n : ℕ). report_after endpoint n (last_report endpoint history) new) (omega arith)

-- ---- reports by index

pub report_front : (history more : List HistoryEvent) (i : ℕ) (endpoint : EndpointId) (revision : ℕ) → IsReport history i endpoint revision
    → IsReport (history ++ more) i endpoint revision
report_front history more i endpoint revision report = record {
  event = report.event;
  there = get_front history more i (slice_get_within history i report.event report.there) ∙ report.there;
  reports = report.reports;
}

pub report_cases : (history : List HistoryEvent) (new : HistoryEvent) (i : ℕ) (endpoint : EndpointId) (revision : ℕ)
    → IsReport (history ++ new ∷ []) i endpoint revision
    → (IsReport history i endpoint revision) ⊎ ((i ≡ length history) × Reports new endpoint revision)
report_cases history new i endpoint revision report =
    elim (get_cases history new report.event i report.there) [
      | inl old ↦ inl (record { event = report.event; there = old.1; reports = report.reports })
      | inr last ↦ inr (last.0, subst (λ (e : HistoryEvent). Reports e endpoint revision) (sym last.1) report.reports)
    ]

pub report_within : (history : List HistoryEvent) (i : ℕ) (endpoint : EndpointId) (revision : ℕ) → IsReport history i endpoint revision → i < length history
report_within history i endpoint revision report = slice_get_within history i report.event report.there

reports_once : (new : HistoryEvent) (endpoint : EndpointId) (revision other : ℕ) → Reports new endpoint revision → Reports new endpoint other → revision ≡ other
reports_once (event.Commit pass number request) endpoint revision other first second = absurd first
reports_once (event.Publish its at table) endpoint revision other first second = sym first.1 ∙ second.1
reports_once (event.Blocked its at count) endpoint revision other first second = sym first.1 ∙ second.1

pub one_revision : (history : List HistoryEvent) (i : ℕ) (endpoint : EndpointId) (revision other : ℕ) → IsReport history i endpoint revision
    → IsReport history i endpoint other → revision ≡ other
one_revision history i endpoint revision other first second =
    let same : first.event ≡ second.event = (let both : Some first.event ≡ Some second.event = sym first.there ∙ second.there in cc) in
    reports_once second.event endpoint revision other (subst (λ (e : HistoryEvent). Reports e endpoint revision) same first.reports) second.reports

-- ---- what the fold tells

-- the report is the last one, and so many commits stand before it
pub record IsLast (history : List HistoryEvent) (endpoint : EndpointId) (last : LastReport) : Type 0 where
  pub place : ℕ
  pub report : IsLastReport history (length history) place endpoint last.revision
  pub commits : last.commits ≡ revision_of (take place history)

abbrev pub Tells : List HistoryEvent → EndpointId → Option LastReport → Type 0
Tells history endpoint None = (i revision : ℕ) → IsReport history i endpoint revision → ⊥
Tells history endpoint (Some last) = IsLast history endpoint last

take_more : (history : List HistoryEvent) (new : HistoryEvent) (n : ℕ) → n ≤ length history → take n (history ++ new ∷ []) ≡ take n history
take_more history new n within = take-append-le n history (new ∷ []) within

-- an event that is no report of the endpoint
passed : (history : List HistoryEvent) (new : HistoryEvent) (endpoint : EndpointId) (last : Option LastReport)
    → ((revision : ℕ) → Reports new endpoint revision → ⊥) → Tells history endpoint last → Tells (history ++ new ∷ []) endpoint last
passed history new endpoint None none tells =
    λ i revision report. elim (report_cases history new i endpoint revision report) [ inl old ↦ tells i revision old | inr here ↦ none revision here.1 ]
passed history new endpoint (Some last) none tells =
    let within = report_within history tells.place endpoint last.revision tells.report.report in
    record {
      place = tells.place;
      report = record {
        report = report_front history (new ∷ []) tells.place endpoint last.revision tells.report.report;
        among = omega (arith, within, length-append history (new ∷ []));
        none_after = λ later other after among report.
            elim (report_cases history new later endpoint other report) [
              | inl old ↦ tells.report.none_after later other after (report_within history later endpoint other old) old
              | inr here ↦ none other here.1
            ];
      };
      commits = tells.commits ∙ ap revision_of (sym (take_more history new tells.place (omega (arith, within))));
    }

-- an event that is one
made : (history : List HistoryEvent) (new : HistoryEvent) (endpoint : EndpointId) (revision : ℕ) (published : Option ℕ) → Reports new endpoint revision
    → IsLast (history ++ new ∷ []) endpoint (record { revision = revision; commits = revision_of history; published = published })
made history new endpoint revision published reports = record {
  place = length history;
  report = record {
    report = record { event = new; there = get_seam history new []; reports = reports };
    among = omega (arith, length-append history (new ∷ []));
    none_after = λ later other after among report. absurd (omega (arith, length-append history (new ∷ [])));
  };
  commits = ap revision_of (sym (take_more history new (length history) (omega arith) ∙ take-length history));
}

module _ (history : List HistoryEvent) (endpoint : EndpointId) (last : Option LastReport) (tells : Tells history endpoint last) where
  chosen : (new : HistoryEvent) (other : EndpointId) (revision : ℕ) (published : Option ℕ) (same : Bool)
      → same_endpoint other endpoint ≡ same
      → (other ≡ endpoint → Reports new endpoint revision)
      → (other ≢ endpoint → (at : ℕ) → Reports new endpoint at → ⊥)
      → Tells (history ++ new ∷ []) endpoint
      (cond same (Some (record { revision = revision; commits = revision_of history; published = published })) last)
  chosen new other revision published true is reports none =
      made history new endpoint revision published
      (reports (elim (same_cases other endpoint) [ inl h ↦ h.1 | inr h ↦ absurd (let no : true ≡ false = sym is ∙ h.0 in cc) ]))
  chosen new other revision published false is reports none =
      passed history new endpoint last
      (none (elim (same_cases other endpoint) [ inl h ↦ absurd (let no : false ≡ true = sym is ∙ h.0 in cc) | inr h ↦ h.1 ])) tells

  told_more : (new : HistoryEvent) → Tells (history ++ new ∷ []) endpoint (report_after endpoint (revision_of history) last new)
  told_more (event.Commit pass number request) = passed history (event.Commit pass number request) endpoint last (λ revision reports. reports) tells
  told_more (event.Publish other revision table) =
      chosen (event.Publish other revision table) other revision (Some revision) (same_endpoint other endpoint) refl
      (λ same. (same, refl)) (λ differ at reports. differ reports.0)
  told_more (event.Blocked other revision count) =
      chosen (event.Blocked other revision count) other revision (published_before last) (same_endpoint other endpoint) refl
      (λ same. (same, refl)) (λ differ at reports. differ reports.0)

-- the fold tells the last report by index
pub told : (history : List HistoryEvent) (endpoint : EndpointId) → Tells history endpoint (last_report endpoint history)
told history endpoint =
    by_growth (λ (h : List HistoryEvent). Tells h endpoint (last_report endpoint h)) (λ i revision report. absurd (let no = report.there in cc))
    (λ h new tells.
    subst (λ (o : Option LastReport). Tells (h ++ new ∷ []) endpoint o) (sym (last_report-more endpoint h new))
    (told_more h endpoint (last_report endpoint h) tells new))
    history

-- the last report by index is the one that the fold finds
pub record IsFound (history : List HistoryEvent) (endpoint : EndpointId) (place revision : ℕ) (last : Option LastReport) : Type 0 where
  pub report : LastReport
  pub found : last ≡ Some report
  pub revision_is : report.revision ≡ revision
  pub commits : report.commits ≡ revision_of (take place history)

one_place : (history : List HistoryEvent) (endpoint : EndpointId) (a b r s : ℕ) → IsLastReport history (length history) a endpoint r
    → IsLastReport history (length history) b endpoint s → a ≡ b
one_place history endpoint a b r s first second =
    elim (cases_lt a b) [
      | inl less ↦ absurd (first.none_after b s less second.among second.report)
      | inr no_less ↦ elim (cases_lt b a) [ inl less ↦ absurd (second.none_after a r less first.among first.report) | inr no_more ↦ omega arith ]
    ]

found_by : (history : List HistoryEvent) (endpoint : EndpointId) (place revision : ℕ) (last : Option LastReport) → Tells history endpoint last
    → IsLastReport history (length history) place endpoint revision → IsFound history endpoint place revision last
found_by history endpoint place revision None tells report = absurd (tells place revision report.report)
found_by history endpoint place revision (Some last) tells report =
    let same = one_place history endpoint tells.place place last.revision revision tells.report report in
    record {
      report = last;
      found = refl;
      revision_is = one_revision history place endpoint last.revision revision
          (subst (λ (n : ℕ). IsReport history n endpoint last.revision) same tells.report.report) report.report;
      commits = tells.commits ∙ ap (λ (n : ℕ). revision_of (take n history)) same;
    }

pub found : (history : List HistoryEvent) (endpoint : EndpointId) (place revision : ℕ)
    → IsLastReport history (length history) place endpoint revision → IsFound history endpoint place revision (last_report endpoint history)
found history endpoint place revision report = found_by history endpoint place revision (last_report endpoint history) (told history endpoint) report
