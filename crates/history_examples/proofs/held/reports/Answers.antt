use Rattle.std.proofs.Common.{◌≡◌, ℕ, ◌≤◌, List, length, refl, sym, ap, ◌∙◌, arith}
use Rattle.std.specs.Prelude.{⊤}
use Rattle.pol_history.specs.declared.event.HistoryEvent.{HistoryEvent}
use Rattle.pol_history.specs.declared.event.HistoryEvent.TheVariants as event
use Rattle.pol_history.specs.ExampleEvents.{open_map, web, web_since}
use Rattle.pol_history.specs.Reports.{Reports}
use Rattle.pol_run_laws.proofs.Places.{element_at}
use Rattle.history_examples.specs.Histories as history
use Rattle.history_examples.proofs.OneEndpoint.{HasTwo, IsNoReport, no_report}
use Rattle.history_examples.proofs.held.reports.Goals as goal

-- a published map is of revision 1, and a report of a map that is too large is of `web`
abbrev IsFirst : HistoryEvent → Type 0
IsFirst (event.Commit pass number request) = ⊤
IsFirst (event.Publish endpoint revision table) = revision ≡ 1
IsFirst (event.Blocked endpoint revision count) = revision ≡ 1

abbrev IsOfWeb : HistoryEvent → Type 0
IsOfWeb (event.Commit pass number request) = ⊤
IsOfWeb (event.Publish endpoint revision table) = ⊤
IsOfWeb (event.Blocked endpoint revision count) = endpoint.name ≡ web

pub returns-clause-published : goal.returns-clause-published
returns-clause-published c = record { place = 1; table = open_map; there = refl }

pub returns-clause-published_before : goal.returns-clause-published_before
returns-clause-published_before c = λ it.
    let no : 2 ≡ 1 = element_at IsFirst history.published it.place (event.Publish (web_since 1) 2 it.table) (tt, (refl, tt)) it.there in omega (arith, no)

-- a published map is of the endpoint that was added at revision 1
abbrev IsSinceOne : HistoryEvent → Type 0
IsSinceOne (event.Commit pass number request) = ⊤
IsSinceOne (event.Publish endpoint revision table) = endpoint.added ≡ 1
IsSinceOne (event.Blocked endpoint revision count) = ⊤

pub returns-clause-published_of_another : goal.returns-clause-published_of_another
returns-clause-published_of_another c = λ it.
    let no : 2 ≡ 1 = element_at IsSinceOne history.published it.place (event.Publish (web_since 2) 1 it.table) (tt, (refl, tt)) it.there in omega (arith, no)

pub returns-clause-blocked : goal.returns-clause-blocked
returns-clause-blocked c = record { place = 1; endpoint = web_since 1; there = refl; name = refl }

pub returns-clause-of_another_name : goal.returns-clause-of_another_name
returns-clause-of_another_name c = λ it.
    let named : it.endpoint.name ≡ web = element_at IsOfWeb history.full it.place (event.Blocked it.endpoint 1 2) (tt, (refl, tt)) it.there in
    let no : 3 ≡ 2 = ap (λ (name : List ℕ). length name) (sym named ∙ it.name) in omega (arith, no)

pub returns-clause-of_another_count : goal.returns-clause-of_another_count
returns-clause-of_another_count c = λ it.
    let no : 3 ≡ 2 = element_at HasTwo history.full it.place (event.Blocked it.endpoint 1 3) (tt, (refl, tt)) it.there in omega (arith, no)

pub returns-clause-at_another_revision : goal.returns-clause-at_another_revision
returns-clause-at_another_revision c = λ it.
    let no : 2 ≡ 1 = element_at IsFirst history.full it.place (event.Blocked it.endpoint 2 2) (tt, (refl, tt)) it.there in omega (arith, no)

pub returns-clause-reported : goal.returns-clause-reported
returns-clause-reported c = record { place = 1; of = 1; report = record { event = event.Publish (web_since 1) 1 open_map; there = refl; reports = (refl, refl) }; newer = omega arith }

-- what is a report is of revision 1
first_only : (e : HistoryEvent) (revision : ℕ) → IsFirst e → Reports e (web_since 1) revision → revision ≡ 1
first_only (event.Commit pass number request) revision first reports = absurd reports
first_only (event.Publish endpoint of table) revision first reports = omega (arith, first, reports.1)
first_only (event.Blocked endpoint of count) revision first reports = omega (arith, first, reports.1)

pub returns-clause-reported_before : goal.returns-clause-reported_before
returns-clause-reported_before c = λ it.
    let first = first_only it.report.event it.of (element_at IsFirst history.published it.place it.report.event (tt, (refl, tt)) it.report.there) it.report.reports in
    let newer : 2 ≤ it.of = it.newer in omega (arith, first, newer)

pub returns-clause-not_reported : goal.returns-clause-not_reported
returns-clause-not_reported c = λ it.
    no_report it.report.event it.of (element_at IsNoReport history.added it.place it.report.event (tt, tt) it.report.there) it.report.reports
