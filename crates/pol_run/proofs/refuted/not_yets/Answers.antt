use Rattle.std.proofs.Common.{◌≡◌, ◌≤◌, refl, ap, arith}
use Rattle.pol_model.specs.declared.row.Endpoint.{Endpoint}
use Rattle.pol_run.proofs.Examples.{web_since, none_is_some, some_same}
use Rattle.pol_run.proofs.refuted.not_yets.Goals as goal

pub returns-clause-not_yet_after_verdict : goal.returns-clause-not_yet_after_verdict
returns-clause-not_yet_after_verdict c = λ run.
    let right = run.right.1.1.0 in
    right.no_verdict _ 1 (1, (omega arith), refl) refl
    (record { verdict = (refl, refl, record { endpoint = right.endpoint; live = right.live; same = refl }) })

pub returns-clause-not_yet_after_phase_verdict : goal.returns-clause-not_yet_after_phase_verdict
returns-clause-not_yet_after_phase_verdict c = λ run.
    let right = run.right.1.1.1.0 in
    right.no_verdict _ 1 (1, (omega arith), refl) refl
    (record { verdict = (refl, refl, record { endpoint = right.endpoint; live = right.live; same = refl }) })

pub returns-clause-not_yet_after_sync : goal.returns-clause-not_yet_after_sync
returns-clause-not_yet_after_sync c = λ run.
    let right = run.right.1.1.0 in
    let added : 1 ≡ right.endpoint.added = ap (λ (x : Endpoint). x.added) (some_same (web_since 1) right.endpoint right.live.found) in
    right.no_sync _ 1 (1, (omega arith), refl) refl (record { sync = (refl, (omega arith), refl) })

pub returns-clause-not_yet_after_phase_sync : goal.returns-clause-not_yet_after_phase_sync
returns-clause-not_yet_after_phase_sync c = λ run.
    let right = run.right.1.1.1.0 in
    let added : 1 ≡ right.endpoint.added = ap (λ (x : Endpoint). x.added) (some_same (web_since 1) right.endpoint right.live.found) in
    right.no_sync _ 1 (1, (omega arith), refl) refl (record { sync = (refl, (omega arith), refl) })

pub returns-clause-stale_not_yet : goal.returns-clause-stale_not_yet
returns-clause-stale_not_yet c = λ run. let reached : 2 ≤ 1 = run.right.1.1.0.is_moment.reached in omega arith

pub returns-clause-not_yet_of_none : goal.returns-clause-not_yet_of_none
returns-clause-not_yet_of_none c = λ run. none_is_some run.right.0.endpoint run.right.0.live.found
