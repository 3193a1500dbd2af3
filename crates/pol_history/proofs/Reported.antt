-- Which reports count for a sync.
use Rattle.std.proofs.Common.{◌≡◌, ℕ, ◌+◌, ◌≤◌, ◌⊎◌, inl, inr, List, length, Option, None, Some, refl, sym, ◌∙◌, subst, arith}
use Rattle.std.specs.List.{slice_get}
use Rattle.std.proofs.lemmas.Option.{slice_get_within}
use Rattle.pol_mapkey.specs.Entries.{Entry as MapEntry}
use Rattle.pol_history.specs.declared.event.EndpointId.{EndpointId}
use Rattle.pol_history.specs.declared.event.HistoryEvent.{HistoryEvent}
use Rattle.pol_history.specs.declared.event.HistoryEvent.TheVariants as event
use Rattle.pol_history.specs.declared.event.LastReport.{LastReport}
use Rattle.pol_history.specs.Calls.{Counts, HasPublish}
use Rattle.pol_history.specs.Reports.{IsLastReport, IsReport, Reports, last_report}
use Rattle.pol_history.proofs.LastReports.{Tells, told}
use Rattle.pol_history.proofs.Lists.{no_element}

module _ (old new : List HistoryEvent) (synced : ℕ) (endpoint : EndpointId) (revision : ℕ) (newer : synced ≤ revision) where
  -- a report that was made in the call counts
  pub report-counts : (place : ℕ) → IsReport new place endpoint revision → length old ≤ place → Counts old new synced place endpoint revision
  report-counts place report past =
      let below = slice_get_within new place report.event report.there in
      record {
        newer = newer;
        prefix = place + 1;
        begins = omega (arith, past);
        within = omega (arith, below);
        last = record { report = report; among = omega arith; none_after = λ later other after among report. absurd (omega (arith, after, among)) };
      }

  -- so does a last report
  pub last_of_all-counts : (place : ℕ) → length old ≤ length new → IsLastReport new (length new) place endpoint revision
      → Counts old new synced place endpoint revision
  last_of_all-counts place longer last = record { newer = newer; prefix = length new; begins = longer; within = omega arith; last = last }

  pub publish-counts : (place : ℕ) (table : List MapEntry) → slice_get new place ≡ Some (event.Publish endpoint revision table) → length old ≤ place
      → HasPublish old new synced endpoint
  publish-counts place table there past = record {
    revision = revision;
    table = table;
    place = place;
    there = there;
    counts = report-counts place (record { event = event.Publish endpoint revision table; there = there; reports = (refl, refl) }) past;
  }

  pub blocked-counts : (place count : ℕ) → slice_get new place ≡ Some (event.Blocked endpoint revision count) → length old ≤ place
      → Counts old new synced place endpoint revision
  blocked-counts place count there past =
      report-counts place (record { event = event.Blocked endpoint revision count; there = there; reports = (refl, refl) }) past

-- a map of the endpoint at the revision was blocked, and counts
pub record HasBlocked (old new : List HistoryEvent) (synced : ℕ) (endpoint : EndpointId) (revision : ℕ) : Type 0 where
  pub count : ℕ
  pub place : ℕ
  pub there : slice_get new place ≡ Some (event.Blocked endpoint revision count)
  pub counts : Counts old new synced place endpoint revision

by_event : (old new : List HistoryEvent) (synced place : ℕ) (endpoint : EndpointId) (revision : ℕ) (e : HistoryEvent) → slice_get new place ≡ Some e
    → Reports e endpoint revision → Counts old new synced place endpoint revision → HasPublish old new synced endpoint ⊎ HasBlocked old new synced endpoint revision
by_event old new synced place endpoint revision (event.Commit pass number request) there reports counts = absurd reports
by_event old new synced place endpoint revision (event.Publish other at table) there reports counts = inl (record {
  revision = revision;
  table = table;
  place = place;
  there = there ∙ (λ i. Some (event.Publish (reports.0 i) (reports.1 i) table));
  counts = counts;
})
by_event old new synced place endpoint revision (event.Blocked other at count) there reports counts = inr (record {
  count = count;
  place = place;
  there = there ∙ (λ i. Some (event.Blocked (reports.0 i) (reports.1 i) count));
  counts = counts;
})

last_by : (old new : List HistoryEvent) (synced : ℕ) (endpoint : EndpointId) (last : Option LastReport) (report : LastReport) → length old ≤ length new
    → synced ≤ report.revision → Tells new endpoint last → last ≡ Some report
    → HasPublish old new synced endpoint ⊎ HasBlocked old new synced endpoint report.revision
last_by old new synced endpoint None report longer newer tells is = absurd (no_element report is)
last_by old new synced endpoint (Some last) report longer newer tells is =
    let same : last ≡ report = (cc) in
    let there = tells.report.report in
    subst (λ (r : LastReport). HasPublish old new synced endpoint ⊎ HasBlocked old new synced endpoint r.revision) same
    (by_event old new synced tells.place endpoint last.revision there.event there.there there.reports
    (record {
      newer = subst (λ (r : LastReport). synced ≤ r.revision) (sym same) newer;
      prefix = length new;
      begins = longer;
      within = omega arith;
      last = tells.report;
    }))

-- an endpoint's last report of the revision or a later one counts
pub last-counts : (old new : List HistoryEvent) (synced : ℕ) (endpoint : EndpointId) (report : LastReport) → length old ≤ length new
    → synced ≤ report.revision → last_report endpoint new ≡ Some report
    → HasPublish old new synced endpoint ⊎ HasBlocked old new synced endpoint report.revision
last-counts old new synced endpoint report longer newer is =
    last_by old new synced endpoint (last_report endpoint new) report longer newer (told new endpoint) is
