use Rattle.std.proofs.Common.{◌≤◌, refl, arith}
use Rattle.std.proofs.lemmas.Bool.{false≢true}
use Rattle.pol_run.specs.Spots.{spots_of}
use Rattle.pol_run.specs.ExampleLines.{one_entry}
use Rattle.pol_run.specs.WrongVerdicts as wrong
use Rattle.pol_run.proofs.Examples.{web_since, verdict_fits}
use Rattle.pol_run.proofs.refuted.verdicts_of_large_maps.Goals as goal

pub returns-clause-over_the_limit : goal.returns-clause-over_the_limit
returns-clause-over_the_limit c = λ run.
    false≢true (verdict_fits one_entry (spots_of wrong.over_the_limit) _ _ 1 _ run.right.1.0 (web_since 1) refl)

pub returns-clause-older_than_sync_with_row : goal.returns-clause-older_than_sync_with_row
returns-clause-older_than_sync_with_row c = λ run.
    let right = run.right.1.1.1.1.0 in
    let since = right.since_added in
    let seen : 3 ≤ 2 = right.syncs_seen _ 3 (3, (omega arith), refl) refl (record { sync = (refl, (omega arith), refl) }) in
    omega arith
