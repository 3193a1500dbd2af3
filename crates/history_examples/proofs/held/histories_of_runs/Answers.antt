use Rattle.std.proofs.Common.{◌≡◌, ℕ, ◌+◌, zero, suc, List, [], ◌∷◌, length, take, slice_get, None, Some, refl, sym, ap, subst, ◌∙◌, arith}
use Rattle.std.specs.Prelude.{⊤}
use Rattle.pol_model.specs.declared.options.Mode.TheVariants.{Always}
use Rattle.pol_model.specs.declared.request.Request.{Request}
use Rattle.pol_history.specs.declared.event.HistoryEvent.{HistoryEvent}
use Rattle.pol_history.specs.declared.event.HistoryEvent.TheVariants as event
use Rattle.pol_history.specs.declared.event.EndpointId.{EndpointId}
use Rattle.pol_history.specs.Commits.{Lives, revision_of, state_after}
use Rattle.pol_history.specs.ExampleEvents.{open_map, web_since}
use Rattle.pol_history.proofs.Lists.{no_element}
use Rattle.pol_history.proofs.Small.{web_row}
use Rattle.pol_mapkey.specs.declared.Word.TheVariants.{Allowed}
use Rattle.pol_run.specs.ExampleLines.{add_web, first_number, packet_to, set, unlimited, web}
use Rattle.pol_run_laws.proofs.Places.{element_at}
use Rattle.pol_run_laws.proofs.Sole.{only_live}
use Rattle.pol_run_laws.specs.HistoryOfRun.{HasPublished, HasReport, IsCommitOf, IsHistoryOf}
use Rattle.history_examples.specs.Conditions.{Apart, Commits, Condition, Holds, OnePass, Rows, Syncs, Verdicts}
use Rattle.history_examples.specs.Held as held
use Rattle.history_examples.specs.Histories as history
use Rattle.history_examples.proofs.LineByLine.{apart_by, history_by, no_row, one_pass_by, rows_by, syncs_by, verdicts_by}
use Rattle.history_examples.proofs.OneEndpoint.{IsNoReport, no_report}
use Rattle.history_examples.proofs.held.histories_of_runs.Goals as goal

-- all sessions commit by one pass
abbrev pass_zero : ℕ → ℕ
pass_zero session = 0

-- ---- whose the commits are

abbrev IsOfFirst : HistoryEvent → Type 0
IsOfFirst (event.Commit pass number request) = pass ≡ 0
IsOfFirst (event.Publish endpoint revision table) = ⊤
IsOfFirst (event.Blocked endpoint revision count) = ⊤

first_pass : (pass k : ℕ) → IsCommitOf held.by_one_pass pass k → pass ≡ 0
first_pass pass k it = element_at IsOfFirst held.by_one_pass it.place (event.Commit pass it.number it.request) (refl, (refl, tt)) it.there

abbrev IsAt : ℕ → HistoryEvent → Type 0
IsAt n (event.Commit pass number request) = pass ≡ n
IsAt n (event.Publish endpoint revision table) = ⊤
IsAt n (event.Blocked endpoint revision count) = ⊤

-- the first commit is of pass 0, and the second of pass 1
counted : (place pass number k : ℕ) (request : Request) → slice_get held.by_two_passes place ≡ Some (event.Commit pass number request)
    → k ≡ revision_of (take place held.by_two_passes) + 1 → k ≡ pass + 1
counted zero pass number k request there kth =
    let first : pass ≡ 0 = element_at (IsAt 0) (event.Commit 0 0 add_web ∷ []) 0 (event.Commit pass number request) (refl, tt) there in omega (arith, first, kth)
counted (suc zero) pass number k request there kth =
    let second : pass ≡ 1 = element_at (IsAt 1) (event.Commit 1 0 (set Always) ∷ []) 0 (event.Commit pass number request) (refl, tt) there in omega (arith, second, kth)
counted (suc (suc place)) pass number k request there kth = absurd (no_element (event.Commit pass number request) there)

no_two_passes : IsHistoryOf unlimited held.by_two_passes held.of_one_session → ⊥
no_two_passes it =
    let one = it.one_pass 0 1 add_web 1 first_number (record { there = refl }) in
    let two = it.one_pass 1 1 (set Always) 2 None (record { there = refl }) in
    let of_one : 1 ≡ it.pass_of 1 + 1 = counted one.place (it.pass_of 1) one.number 1 one.request one.there one.kth in
    let of_two : 2 ≡ it.pass_of 1 + 1 = counted two.place (it.pass_of 1) two.number 2 two.request two.there two.kth in omega (arith, of_one, of_two)

but_for_one_pass : (other : Condition) → (other ≡ OnePass → ⊥) → Holds other unlimited held.by_two_passes held.of_one_session pass_zero
but_for_one_pass Commits not = refl
but_for_one_pass OnePass not = absurd (not refl)
but_for_one_pass Apart not = apart_by unlimited held.by_two_passes held.of_one_session pass_zero (refl, (refl, tt))
but_for_one_pass Verdicts not = verdicts_by unlimited held.by_two_passes held.of_one_session pass_zero (tt, (tt, tt))
but_for_one_pass Rows not = rows_by unlimited held.by_two_passes held.of_one_session pass_zero (tt, (tt, tt))
but_for_one_pass Syncs not = syncs_by unlimited held.by_two_passes held.of_one_session pass_zero (tt, (tt, tt))

pub returns-clause-two_passes_of_a_session : goal.returns-clause-two_passes_of_a_session
returns-clause-two_passes_of_a_session c = record { pass_of = pass_zero; others = but_for_one_pass; lacks = no_two_passes }

no_two_sessions : IsHistoryOf unlimited held.by_one_pass held.of_two_sessions → ⊥
no_two_sessions it =
    let one : it.pass_of 1 ≡ 0 = first_pass (it.pass_of 1) 1 (it.one_pass 0 1 add_web 1 first_number (record { there = refl })) in
    let two : it.pass_of 2 ≡ 0 = first_pass (it.pass_of 2) 2 (it.one_pass 1 2 (set Always) 2 None (record { there = refl })) in
    let no : 1 ≡ 2 = it.apart 0 1 1 2 add_web (set Always) 1 2 first_number None (record { there = refl }) (record { there = refl }) (one ∙ sym two) in omega (arith, no)

-- the commits of both sessions, by the one pass
first_commit : IsCommitOf held.by_one_pass 0 1
first_commit = record { place = 0; number = 0; request = add_web; there = refl; kth = refl }

second_commit : IsCommitOf held.by_one_pass 0 2
second_commit = record { place = 1; number = 1; request = set Always; there = refl; kth = refl }

but_for_apart : (other : Condition) → (other ≡ Apart → ⊥) → Holds other unlimited held.by_one_pass held.of_two_sessions pass_zero
but_for_apart Commits not = refl
but_for_apart OnePass not = one_pass_by unlimited held.by_one_pass held.of_two_sessions pass_zero (first_commit, (second_commit, tt))
but_for_apart Apart not = absurd (not refl)
but_for_apart Verdicts not = verdicts_by unlimited held.by_one_pass held.of_two_sessions pass_zero (tt, (tt, tt))
but_for_apart Rows not = rows_by unlimited held.by_one_pass held.of_two_sessions pass_zero (tt, (tt, tt))
but_for_apart Syncs not = syncs_by unlimited held.by_one_pass held.of_two_sessions pass_zero (tt, (tt, tt))

pub returns-clause-two_sessions_of_a_pass : goal.returns-clause-two_sessions_of_a_pass
returns-clause-two_sessions_of_a_pass c = record { pass_of = pass_zero; others = but_for_apart; lacks = no_two_sessions }

-- ---- another commit than those of the run

but_for_commits : (other : Condition) → (other ≡ Commits → ⊥) → Holds other unlimited history.added [] pass_zero
but_for_commits Commits not = absurd (not refl)
but_for_commits OnePass not = one_pass_by unlimited history.added [] pass_zero tt
but_for_commits Apart not = apart_by unlimited history.added [] pass_zero tt
but_for_commits Verdicts not = verdicts_by unlimited history.added [] pass_zero tt
but_for_commits Rows not = rows_by unlimited history.added [] pass_zero tt
but_for_commits Syncs not = syncs_by unlimited history.added [] pass_zero tt

pub returns-clause-other_commits : goal.returns-clause-other_commits
returns-clause-other_commits c = record {
  pass_of = pass_zero;
  others = but_for_commits;
  lacks = λ it. let wrong : 1 ≡ 0 = ap (λ (requests : List Request). length requests) it.commits in omega (arith, wrong);
}

-- ---- what was published and reported

-- the endpoint's commit is the first, and it alone lives
added_first : IsCommitOf history.added 0 1
added_first = record { place = 0; number = 0; request = add_web; there = refl; kth = refl }

published_first : IsCommitOf history.published 0 1
published_first = record { place = 0; number = 0; request = add_web; there = refl; kth = refl }

its_map : (endpoint : EndpointId) → Lives (state_after unlimited history.published 1) endpoint → HasPublished history.published endpoint 1
its_map endpoint lives =
    subst (λ (e : EndpointId). HasPublished history.published e 1) (only_live (state_after unlimited history.published 1) (web_row 1) endpoint refl lives)
    (record { place = 1; table = open_map; there = refl })

its_report : (endpoint : EndpointId) → Lives (state_after unlimited history.published 1) endpoint → HasReport history.published endpoint 1
its_report endpoint lives =
    subst (λ (e : EndpointId). HasReport history.published e 1) (only_live (state_after unlimited history.published 1) (web_row 1) endpoint refl lives)
    (record {
      place = 1;
      of = 1;
      report = record { event = event.Publish (web_since 1) 1 open_map; there = refl; reports = (refl, refl) };
      newer = omega arith;
    })

all_of_both : (condition : Condition) → Holds condition unlimited history.published held.told_both pass_zero
all_of_both Commits = refl
all_of_both OnePass = one_pass_by unlimited history.published held.told_both pass_zero (published_first, (tt, (tt, tt)))
all_of_both Apart = apart_by unlimited history.published held.told_both pass_zero (refl, (tt, (tt, tt)))
all_of_both Verdicts = verdicts_by unlimited history.published held.told_both pass_zero (tt, ((λ endpoint named lives. its_map endpoint lives), (tt, tt)))
all_of_both Rows = rows_by unlimited history.published held.told_both pass_zero (tt, (tt, (no_row history.published, tt)))
all_of_both Syncs = syncs_by unlimited history.published held.told_both pass_zero (tt, (tt, (its_report, tt)))

pub returns-clause-is : goal.returns-clause-is
returns-clause-is c = history_by unlimited history.published held.told_both pass_zero all_of_both

but_for_verdicts : (other : Condition) → (other ≡ Verdicts → ⊥) → Holds other unlimited history.added held.told_a_verdict pass_zero
but_for_verdicts Commits not = refl
but_for_verdicts OnePass not = one_pass_by unlimited history.added held.told_a_verdict pass_zero (added_first, (tt, tt))
but_for_verdicts Apart not = apart_by unlimited history.added held.told_a_verdict pass_zero (refl, (tt, tt))
but_for_verdicts Verdicts not = absurd (not refl)
but_for_verdicts Rows not = rows_by unlimited history.added held.told_a_verdict pass_zero (tt, (tt, tt))
but_for_verdicts Syncs not = syncs_by unlimited history.added held.told_a_verdict pass_zero (tt, (tt, tt))

pub returns-clause-map_not_published : goal.returns-clause-map_not_published
returns-clause-map_not_published c = record {
  pass_of = pass_zero;
  others = but_for_verdicts;
  lacks = λ it.
      let is = it.verdicts 1 1 (packet_to web) 1 Allowed (web_since 1) (record { there = refl }) refl (record { row = web_row 1; found = refl }) in
      element_at IsNoReport history.added is.place (event.Publish (web_since 1) 1 is.table) (tt, tt) is.there;
}

but_for_rows : (other : Condition) → (other ≡ Rows → ⊥) → Holds other unlimited history.published held.told_a_row pass_zero
but_for_rows Commits not = refl
but_for_rows OnePass not = one_pass_by unlimited history.published held.told_a_row pass_zero (published_first, (tt, tt))
but_for_rows Apart not = apart_by unlimited history.published held.told_a_row pass_zero (refl, (tt, tt))
but_for_rows Verdicts not = verdicts_by unlimited history.published held.told_a_row pass_zero (tt, (tt, tt))
but_for_rows Rows not = absurd (not refl)
but_for_rows Syncs not = syncs_by unlimited history.published held.told_a_row pass_zero (tt, (its_report, tt))

-- no map is too large
abbrev IsNotBlocked : HistoryEvent → Type 0
IsNotBlocked (event.Commit pass number request) = ⊤
IsNotBlocked (event.Publish endpoint revision table) = ⊤
IsNotBlocked (event.Blocked endpoint revision count) = ⊥

pub returns-clause-row_not_reported : goal.returns-clause-row_not_reported
returns-clause-row_not_reported c = record {
  pass_of = pass_zero;
  others = but_for_rows;
  lacks = λ it.
      let is = it.rows 1 1 1 (held.row ∷ []) held.row (record { there = refl }) (0, omega arith, refl) in
      element_at IsNotBlocked history.published is.place (event.Blocked is.endpoint 1 2) (tt, (tt, tt)) is.there;
}

but_for_syncs : (other : Condition) → (other ≡ Syncs → ⊥) → Holds other unlimited history.added held.told_no_row pass_zero
but_for_syncs Commits not = refl
but_for_syncs OnePass not = one_pass_by unlimited history.added held.told_no_row pass_zero (added_first, (tt, tt))
but_for_syncs Apart not = apart_by unlimited history.added held.told_no_row pass_zero (refl, (tt, tt))
but_for_syncs Verdicts not = verdicts_by unlimited history.added held.told_no_row pass_zero (tt, (tt, tt))
but_for_syncs Rows not = rows_by unlimited history.added held.told_no_row pass_zero (tt, (no_row history.added, tt))
but_for_syncs Syncs not = absurd (not refl)

pub returns-clause-synced_without_report : goal.returns-clause-synced_without_report
returns-clause-synced_without_report c = record {
  pass_of = pass_zero;
  others = but_for_syncs;
  lacks = λ it.
      let is = it.syncs 1 1 1 [] (web_since 1) (record { there = refl }) (record { row = web_row 1; found = refl }) (record { row = web_row 1; found = refl }) in
      no_report is.report.event is.of (element_at IsNoReport history.added is.place is.report.event (tt, tt) is.report.there) is.report.reports;
}
