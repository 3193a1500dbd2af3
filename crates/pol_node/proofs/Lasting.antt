-- The last report of an endpoint: it is older than what was taken since, and a report is the last one after it.
use Rattle.std.proofs.Common.{◌≡◌, ℕ, ◌<◌, ◌≤◌, Bool, false, cond, List, [], ◌∷◌, ◌++◌, take, Option, None, Some, IfSome, refl, sym, ap, ◌∙◌, subst, arith, append-nil}
use Rattle.std.proofs.lemmas.Bool.Decides.{nat_tests}
use Rattle.pol_mapkey.specs.Entries.{Entry as MapEntry}
use Rattle.pol_model.specs.After.{state_of}
use Rattle.pol_model.specs.declared.options.Options.{Options}
use Rattle.pol_model.specs.declared.request.Request.{Request}
use Rattle.pol_history.specs.declared.event.EndpointId.{EndpointId}
use Rattle.pol_history.specs.declared.event.HistoryEvent.{HistoryEvent}
use Rattle.pol_history.specs.declared.event.HistoryEvent.TheVariants as event
use Rattle.pol_history.specs.declared.event.LastReport.{LastReport}
use Rattle.pol_history.specs.Commits.{Lives, commits_in, revision_of, state_now}
use Rattle.pol_history.specs.Legal.{IsLegal}
use Rattle.pol_history.specs.Machine.{endpoint_id, is_reported}
use Rattle.pol_history.specs.Reports.{last_report, published_before}
use Rattle.pol_history.proofs.Beginnings.{cut_prefix}
use Rattle.pol_history.proofs.Cuts.{commits-append}
use Rattle.pol_history.proofs.LastReports.{Tells, last_report-more, told}
use Rattle.pol_history.proofs.Own.{legal_prefix, revision-prefix}
use Rattle.pol_history.proofs.Same.{is-same}
use Rattle.pol_taken.specs.declared.taken.Taken.{Taken}
use Rattle.pol_node.specs.Kept.{IsLastNow, IsReportedAs, blocked_now, published_now}
use Rattle.pol_node.proofs.Reporting.{IsNext, WasTakenAt, next_by}

-- ---- it is older than what was taken since

-- it is of the revision at most, and has no more commits before it
pub record IsOlder (revision : ℕ) (last : Option LastReport) : Type 0 where
  pub revisions : IfSome last (λ report. report.revision ≤ revision)
  pub commits : IfSome last (λ report. report.commits ≤ revision)

module _ (options : Options) (history : List HistoryEvent) (legal : IsLegal options history) (endpoint : EndpointId) where
  older_by : (last : Option LastReport) → Tells history endpoint last → IsOlder (revision_of history) last
  older_by None tells = record { revisions = tt; commits = tt }
  older_by (Some report) tells =
      let before = revision-prefix (take tells.place history) history (cut_prefix tells.place history) in
      let within = legal.committed tells.place endpoint report.revision tells.report.report in
      let commits = tells.commits in
      record { revisions = omega (arith, within, before); commits = omega (arith, commits, before) }

  -- the last report of a history is of a revision of it
  pub older : (last : Option LastReport) → last_report endpoint history ≡ last → IsOlder (revision_of history) last
  older last is = older_by last (subst (λ (o : Option LastReport). Tells history endpoint o) is (told history endpoint))

newer_by : (revision : ℕ) (last : Option LastReport) → is_reported revision last ≡ false → IfSome last (λ report. report.revision ≤ revision)
    → IfSome last (λ report. report.revision < revision)
newer_by revision None of older = tt
newer_by revision (Some report) of older = grind (arith, nat_tests, of, older)

-- so a report at a revision since may come next, where there is none of that revision
pub next_after : (options : Options) (history : List HistoryEvent) (endpoint : EndpointId) (revision : ℕ) (last : Option LastReport)
    → Lives (state_now options history) endpoint → last_report endpoint history ≡ last → is_reported revision last ≡ false → IsOlder revision last
    → IsNext options history endpoint revision (published_before last)
next_after options history endpoint revision last live is of older =
    next_by options history endpoint revision (published_before last) last live (sym is) (newer_by revision last of older.revisions) older.commits refl

-- of what was taken
pub next_here : (options : Options) (old history : List HistoryEvent) (taken : Taken) (was : WasTakenAt options old history taken) (last : Option LastReport)
    → Lives (state_now options history) (endpoint_id taken.endpoint) → last_report (endpoint_id taken.endpoint) old ≡ last
    → last_report (endpoint_id taken.endpoint) history ≡ last → is_reported taken.revision last ≡ false
    → IsNext options history (endpoint_id taken.endpoint) taken.revision (published_before last)
next_here options old history taken was last live before is of =
    let legal = legal_prefix options old history was.begins was.legal in
    next_after options history (endpoint_id taken.endpoint) taken.revision last live is of
    (subst (λ (n : ℕ). IsOlder n last) (sym was.revision) (older options old legal (endpoint_id taken.endpoint) last before))

-- ---- a report more

-- a report changes no state
lives_on : (options : Options) (history new : List HistoryEvent) (e : HistoryEvent) (endpoint : EndpointId) → commits_in (e ∷ []) ≡ []
    → new ≡ history ++ e ∷ [] → Lives (state_now options history) endpoint → Lives (state_now options new) endpoint
lives_on options history new e endpoint none added live =
    let same : commits_in new ≡ commits_in history =
    ap commits_in added ∙ commits-append history (e ∷ []) ∙ ap (λ (more : List Request). commits_in history ++ more) none ∙ append-nil (commits_in history) in
    subst (λ (requests : List Request). Lives (state_of options requests) endpoint) (sym same) live

module _ (options : Options) (history new : List HistoryEvent) (endpoint : EndpointId) (revision : ℕ) (live : Lives (state_now options history) endpoint) where
  pub last_published : (table : List MapEntry) → new ≡ history ++ event.Publish endpoint revision table ∷ []
      → IsLastNow options new endpoint (published_now revision (revision_of history))
  last_published table added = record {
    live = lives_on options history new (event.Publish endpoint revision table) endpoint refl added live;
    is =
        ap (last_report endpoint) added
        ∙ last_report-more endpoint history (event.Publish endpoint revision table)
        ∙ ap (λ (same : Bool). cond same (published_now revision (revision_of history)) (last_report endpoint history)) (is-same endpoint);
  }

  pub last_blocked : (count : ℕ) (last : Option LastReport) → last_report endpoint history ≡ last → new ≡ history ++ event.Blocked endpoint revision count ∷ []
      → IsLastNow options new endpoint (blocked_now revision (revision_of history) last)
  last_blocked count last is added = record {
    live = lives_on options history new (event.Blocked endpoint revision count) endpoint refl added live;
    is =
        ap (last_report endpoint) added
        ∙ last_report-more endpoint history (event.Blocked endpoint revision count)
        ∙ ap (λ (same : Bool). cond same (blocked_now revision (revision_of history) (last_report endpoint history)) (last_report endpoint history)) (is-same endpoint)
        ∙ ap (blocked_now revision (revision_of history)) is;
  }

  pub published_as : (table : List MapEntry) (commits : ℕ) (last : Option LastReport) → last ≡ published_now revision commits → commits ≡ revision_of history
      → new ≡ history ++ event.Publish endpoint revision table ∷ [] → IsReportedAs options new endpoint last (Some revision)
  published_as table commits last is many added =
      let same : last ≡ published_now revision (revision_of history) = is ∙ ap (published_now revision) many in
      record {
        now = subst (λ (l : Option LastReport). IsLastNow options new endpoint l) (sym same) (last_published table added);
        shows = ap published_before same;
      }

  pub blocked_as : (count commits : ℕ) (before last : Option LastReport) → last ≡ blocked_now revision commits before → commits ≡ revision_of history
      → last_report endpoint history ≡ before → new ≡ history ++ event.Blocked endpoint revision count ∷ []
      → IsReportedAs options new endpoint last (published_before before)
  blocked_as count commits before last is many last_is added =
      let same : last ≡ blocked_now revision (revision_of history) before = is ∙ ap (λ (n : ℕ). blocked_now revision n before) many in
      record {
        now = subst (λ (l : Option LastReport). IsLastNow options new endpoint l) (sym same) (last_blocked count before last_is added);
        shows = ap published_before same;
      }
