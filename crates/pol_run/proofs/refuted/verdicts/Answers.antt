use Rattle.std.proofs.Common.{◌≡◌, ℕ, ◌≤◌, Some, refl, ap, subst, arith}
use Rattle.pol_model.specs.Endpoints.{endpoint_of}
use Rattle.pol_model.specs.declared.row.Endpoint.{Endpoint}
use Rattle.pol_run.specs.Spots.{spots_of}
use Rattle.pol_run.specs.History.{state_at}
use Rattle.pol_run.specs.ExampleLines.{unlimited, web}
use Rattle.pol_run.specs.WrongVerdicts as wrong
use Rattle.pol_run.proofs.Examples.{web_since, none_is_some, denied_is_allowed, endpoint_at_moment, verdict_bound, verdict_word}
use Rattle.pol_run.proofs.refuted.verdicts.Goals as goal

pub returns-clause-older_than_sync : goal.returns-clause-older_than_sync
returns-clause-older_than_sync c = λ run.
    let right = run.right.1.1.1.0 in
    let since = right.since_added in
    let seen : 2 ≤ 1 = right.syncs_seen _ 2 (2, (omega arith), refl) refl (record { sync = (refl, (omega arith), refl) }) in
    omega arith

pub returns-clause-older_than_phase_sync : goal.returns-clause-older_than_phase_sync
returns-clause-older_than_phase_sync c = λ run.
    let right = run.right.1.1.1.1.0 in
    let since = right.since_added in
    let seen : 2 ≤ 1 = right.syncs_seen _ 2 (2, (omega arith), refl) refl (record { sync = (refl, (omega arith), refl) }) in
    omega arith

pub returns-clause-going_back : goal.returns-clause-going_back
returns-clause-going_back c = λ run.
    let seen : 2 ≤ 1 =
    verdict_bound unlimited (spots_of wrong.going_back) _ _ 1 _ run.right.1.1.1.0 (web_since 1) refl _ 2 (2, (omega arith), refl) refl
    (record { verdict = (refl, refl, record { endpoint = web_since 1; live = record { found = refl }; same = refl }) }) in
    omega arith

pub returns-clause-going_back_over_phases : goal.returns-clause-going_back_over_phases
returns-clause-going_back_over_phases c = λ run.
    let seen : 2 ≤ 1 =
    verdict_bound unlimited (spots_of wrong.going_back_over_phases) _ _ 1 _ run.right.1.1.1.1.0 (web_since 1) refl _ 2 (2, (omega arith), refl) refl
    (record { verdict = (refl, refl, record { endpoint = web_since 1; live = record { found = refl }; same = refl }) }) in
    omega arith

pub returns-clause-older_than_endpoint : goal.returns-clause-older_than_endpoint
returns-clause-older_than_endpoint c = λ run.
    let right = run.right.1.1.0 in
    let from : 2 ≤ right.moment = right.is_moment.reached in
    let to : right.moment ≤ 2 = right.is_moment.allowed in
    let same = endpoint_at_moment unlimited (spots_of wrong.older_than_endpoint) _ _ 1 _ right (web_since 2) 2 (omega arith) refl in
    let added : right.endpoint.added ≡ 2 = ap (λ (x : Endpoint). x.added) same in
    omega (arith, right.since_added)

pub returns-clause-verdict_ahead : goal.returns-clause-verdict_ahead
returns-clause-verdict_ahead c = λ run.
    let right = run.right.1.0 in
    let to : right.moment ≤ 1 = right.is_moment.allowed in
    omega (arith, right.by_moment)

pub returns-clause-verdict_for_the_gone : goal.returns-clause-verdict_for_the_gone
returns-clause-verdict_for_the_gone c = λ run.
    let right = run.right.1.1.0 in
    let from : 2 ≤ right.moment = right.is_moment.reached in
    let to : right.moment ≤ 2 = right.is_moment.allowed in
    let spots = spots_of wrong.verdict_for_the_gone in
    let now : right.moment ≡ 2 = omega arith in
    none_is_some right.endpoint
    (subst (λ (k : ℕ). endpoint_of web (state_at unlimited spots k).endpoints ≡ Some right.endpoint) now right.live.found)

pub returns-clause-other_word : goal.returns-clause-other_word
returns-clause-other_word c = λ run.
    denied_is_allowed (verdict_word unlimited (spots_of wrong.other_word) _ _ 1 _ run.right.1.0 (web_since 1) refl)
