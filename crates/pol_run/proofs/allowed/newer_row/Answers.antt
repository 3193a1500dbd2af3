use Rattle.std.proofs.Common.{◌∷◌, [], refl, arith}
use Rattle.pol_run.specs.Spots.{spots_of}
use Rattle.pol_run.specs.History.{commits_of}
use Rattle.pol_run.specs.ExampleLines.{one_entry, web, full}
use Rattle.pol_run.specs.RightRuns.{newer_row}
use Rattle.pol_run.proofs.Examples.{web_since, some_row_is_none}
use Rattle.pol_run.proofs.RightExamples.{ascending_from, moment_at, row_alone}
use Rattle.pol_run.proofs.allowed.newer_row.Goals as goal

pub returns-clause-run : goal.returns-clause-run
returns-clause-run c =
    let spots = spots_of newer_row in
    record {
      numbered = record {
        from_one = ((omega arith, omega arith), ((omega arith, omega arith), tt));
        each_once = (((omega arith), tt), (tt, tt));
        ascending = ascending_from (commits_of spots) refl;
      };
      right = (
        record { no_fault = refl; identity = refl },
        (
          record {
            is_moment = moment_at spots _ 1 refl refl;
            rows = (
              record {
                since = omega arith;
                allowed = omega arith;
                endpoint = web_since 1;
                live = record { found = refl };
                count = refl;
                too_many = refl;
              },
              tt,
            );
            ascend = tt;
            distinct = (tt, tt);
            complete = λ name added large.
                row_alone one_entry spots name added 1 (web_since 1) (large 1 (omega arith) (omega arith)) refl
                (full web 2 2 ∷ []) (full web 2 2) (0, (omega arith), refl) refl refl;
          },
          (record { no_fault = refl; identity = refl }, tt),
        ),
      );
    }

pub returns-clause-not_serial : goal.returns-clause-not_serial
returns-clause-not_serial c = λ serial. some_row_is_none (full web 2 2) [] serial.1.0.no_rows
