use Rattle.std.proofs.Common.{◌≡◌, ◌∷◌, [], refl, ap, arith}
use Rattle.pol_model.specs.declared.row.Endpoint.{Endpoint}
use Rattle.pol_run.specs.Spots.{spots_of}
use Rattle.pol_run.specs.History.{commits_of}
use Rattle.pol_run.specs.RightAnswer.{AreOfOneEndpoint}
use Rattle.pol_run.specs.ExampleLines.{one_entry, web, full}
use Rattle.pol_run.specs.RightRuns.{rows_of_old_and_new}
use Rattle.pol_run.proofs.Examples.{web_since, some_same, some_row_is_none}
use Rattle.pol_run.proofs.RightExamples.{ascending_from, moment_at, none_alone}
use Rattle.pol_run.proofs.allowed.rows_of_old_and_new.Goals as goal

-- the rows are of endpoints that were added at 1 and at 3
two_endpoints : AreOfOneEndpoint one_entry (spots_of rows_of_old_and_new) (full web 1 2) (full web 3 2) → ⊥
two_endpoints same =
    let old : 1 ≡ same.first.endpoint.added =
    ap (λ (e : Endpoint). e.added) (some_same (web_since 1) same.first.endpoint same.first.live.found) in
    let new : 3 ≡ same.second.endpoint.added =
    ap (λ (e : Endpoint). e.added) (some_same (web_since 3) same.second.endpoint same.second.live.found) in
    omega (arith, same.first.same, same.second.same)

pub returns-clause-run : goal.returns-clause-run
returns-clause-run c =
    let spots = spots_of rows_of_old_and_new in
    record {
      numbered = record {
        from_one = ((omega arith, omega arith), ((omega arith, omega arith), ((omega arith, omega arith), tt)));
        each_once = (((omega arith), ((omega arith), tt)), (((omega arith), tt), (tt, tt)));
        ascending = ascending_from (commits_of spots) refl;
      };
      right = (
        record { no_fault = refl; identity = refl },
        (
          record { no_fault = refl; identity = refl },
          (
            record { no_fault = refl; identity = refl },
            (
              record {
                is_moment = moment_at spots _ 1 refl refl;
                rows = (
                  record { since = omega arith; allowed = omega arith; endpoint = web_since 1; live = record { found = refl }; count = refl; too_many = refl },
                  (record { since = omega arith; allowed = omega arith; endpoint = web_since 3; live = record { found = refl }; count = refl; too_many = refl }, tt),
                );
                ascend = (refl, tt);
                distinct = ((two_endpoints, tt), (tt, tt));
                complete = λ name added large. absurd (none_alone one_entry spots name added 2 refl (large 2 (omega arith) (omega arith)));
              },
              tt,
            ),
          ),
        ),
      );
    }

pub returns-clause-not_serial : goal.returns-clause-not_serial
returns-clause-not_serial c = λ serial. some_row_is_none (full web 1 2) (full web 3 2 ∷ []) serial.1.1.1.0.no_rows
