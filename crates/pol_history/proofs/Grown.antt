-- The reports of one endpoint in a legal history are of ever later revisions.
use Rattle.std.proofs.Common.{◌≡◌, ℕ, zero, suc, ◌<◌, ◌≤◌, inl, inr, List, length, take, Option, None, Some, refl, sym, subst, arith}
use Rattle.std.proofs.lemmas.Bool.{cases_lt, cases_order}
use Rattle.std.proofs.lemmas.List.{length-take-le}
use Rattle.pol_mapkey.specs.Entries.{Entry as MapEntry}
use Rattle.pol_model.specs.declared.options.Options.{Options}
use Rattle.pol_history.specs.declared.event.EndpointId.{EndpointId}
use Rattle.pol_history.specs.declared.event.HistoryEvent.{HistoryEvent}
use Rattle.pol_history.specs.declared.event.HistoryEvent.TheVariants as event
use Rattle.pol_history.specs.declared.event.LastReport.{LastReport}
use Rattle.pol_history.specs.Legal.{IsLegal}
use Rattle.pol_history.specs.Commits.{revision_of}
use Rattle.pol_history.proofs.Cuts.{revision-grows}
use Rattle.pol_history.specs.Reports.{IsLastReport, IsReport, last_report}
use Rattle.pol_history.proofs.LastReports.{Tells, one_revision, report_within, told}
use Rattle.pol_history.proofs.LegalEvents.{last_of_take, report_in_take}
use Rattle.pol_history.proofs.Published.{PublishesAt, IsLastPublished}

module _ (options : Options) (history : List HistoryEvent) (legal : IsLegal options history) (endpoint : EndpointId) where
  -- by the report's previous one, of which this is known
  by_last : (i j r s : ℕ) → i < j → IsReport history i endpoint r → IsReport history j endpoint s
      → ((m t : ℕ) → m < j → i < m → IsReport history m endpoint t → r < t)
      → (last : Option LastReport) → Tells (take j history) endpoint last → r < s
  by_last i j r s less first second before None tells = absurd (tells i r (report_in_take history j i endpoint r less first))
  by_last i j r s less first second before (Some last) tells =
      let long : length (take j history) ≡ j = length-take-le j history (omega (arith, report_within history j endpoint s second)) in
      let latest = last_of_take history j tells.place endpoint last.revision
      (subst (λ (n : ℕ). IsLastReport (take j history) n tells.place endpoint last.revision) long tells.report) in
      let newer : last.revision < s = legal.newer j tells.place endpoint s last.revision second latest in
      elim (cases_order i tells.place) [
        | inl same ↦
            let here = subst (λ (n : ℕ). IsReport history n endpoint last.revision) (sym same) latest.report in
            omega (arith, newer, one_revision history i endpoint r last.revision first here)
        | inr (inl earlier) ↦ omega (arith, newer, before tells.place last.revision latest.among earlier latest.report)
        | inr (inr later) ↦ absurd (latest.none_after i r later less first)
      ]

  grow_to : (n i j r s : ℕ) → j < n → i < j → IsReport history i endpoint r → IsReport history j endpoint s → r < s
  grow_to zero i j r s small less first second = absurd (omega (arith, small))
  grow_to (suc n) i j r s small less first second =
      by_last i j r s less first second (λ m t earlier later report. grow_to n i m r t (omega (arith, small, earlier)) later first report)
      (last_report endpoint (take j history)) (told (take j history) endpoint)

  pub reports_grow : (i j r s : ℕ) → i < j → IsReport history i endpoint r → IsReport history j endpoint s → r < s
  reports_grow i j r s less first second = grow_to (suc j) i j r s (omega arith) less first second

  pub published_report : (i revision : ℕ) (table : List MapEntry) → PublishesAt history endpoint i revision table → IsReport history i endpoint revision
  published_report i revision table there = record { event = event.Publish endpoint revision table; there = there; reports = (refl, refl) }

  -- no published map is newer than the last one
  pub newest : (i r s : ℕ) (table : List MapEntry) → PublishesAt history endpoint i r table → IsLastPublished history endpoint s → r ≤ s
  newest i r s table there last =
      let report = published_report i r table there in
      let latest = published_report last.place s last.table last.there in
      elim (cases_order i last.place) [
        | inl same ↦
            omega (
              arith,
              one_revision history i endpoint r s report (subst (λ (n : ℕ). IsReport history n endpoint s) (sym same) latest),
            )
        | inr (inl earlier) ↦ omega (arith, reports_grow i last.place r s earlier report latest)
        | inr (inr later) ↦ absurd (last.none_after i r table later there)
      ]

  -- a report is of a revision that has all commits before an earlier one
  bound_by : (i j r s : ℕ) → i < j → IsReport history i endpoint r → IsReport history j endpoint s → (last : Option LastReport)
      → Tells (take j history) endpoint last → revision_of (take i history) ≤ s
  bound_by i j r s less first second None tells = absurd (tells i r (report_in_take history j i endpoint r less first))
  bound_by i j r s less first second (Some last) tells =
      let long : length (take j history) ≡ j = length-take-le j history (omega (arith, report_within history j endpoint s second)) in
      let latest = last_of_take history j tells.place endpoint last.revision
      (subst (λ (n : ℕ). IsLastReport (take j history) n tells.place endpoint last.revision) long tells.report) in
      let enough = legal.no_older_commits j tells.place endpoint s last.revision second latest in
      elim (cases_lt tells.place i) [
        | inl later ↦ absurd (latest.none_after i r later less first)
        | inr earlier ↦ omega (arith, enough, revision-grows i tells.place history earlier)
      ]

  pub commits_bound : (i j r s : ℕ) → i < j → IsReport history i endpoint r → IsReport history j endpoint s → revision_of (take i history) ≤ s
  commits_bound i j r s less first second =
      bound_by i j r s less first second (last_report endpoint (take j history)) (told (take j history) endpoint)
