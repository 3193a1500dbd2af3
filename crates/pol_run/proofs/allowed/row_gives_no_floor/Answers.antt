use Rattle.std.proofs.Common.{◌∷◌, [], refl, arith}
use Rattle.pol_run.specs.Spots.{spots_of}
use Rattle.pol_run.specs.History.{commits_of}
use Rattle.pol_run.specs.ExampleLines.{one_entry, web, full}
use Rattle.pol_run.specs.RightRuns.{row_gives_no_floor}
use Rattle.pol_run.proofs.Examples.{web_since, some_row_is_none}
use Rattle.pol_run.proofs.RightExamples.{ascending_from, moment_at, verdict_at, not_yet_at, row_alone}
use Rattle.pol_run.proofs.allowed.row_gives_no_floor.Goals as goal

pub returns-clause-run : goal.returns-clause-run
returns-clause-run c =
    let spots = spots_of row_gives_no_floor in
    record {
      numbered = record {
        from_one = ((omega arith, omega arith), ((omega arith, omega arith), ((omega arith, omega arith), tt)));
        each_once = (((omega arith), ((omega arith), tt)), (((omega arith), tt), (tt, tt)));
        ascending = ascending_from (commits_of spots) refl;
      };
      right = (
        record { no_fault = refl; identity = refl },
        (
          record { no_fault = refl; identity = refl },
          (
            record { no_fault = refl; identity = refl },
            (
              record {
                is_moment = moment_at spots _ 3 refl refl;
                rows = (
                  record {
                    since = omega arith;
                    allowed = omega arith;
                    endpoint = web_since 1;
                    live = record { found = refl };
                    count = refl;
                    too_many = refl;
                  },
                  tt,
                );
                ascend = tt;
                distinct = (tt, tt);
                complete = λ name added large.
                    row_alone one_entry spots name added 3 (web_since 1) (large 3 (omega arith) (omega arith)) refl
                    (full web 3 2 ∷ []) (full web 3 2) (0, (omega arith), refl) refl refl;
              },
              (
                not_yet_at one_entry spots _ _ 3 (web_since 1) 0 (moment_at spots _ 3 refl refl) refl refl refl,
                (
                  verdict_at one_entry spots _ _ 2 _ 3 (web_since 1) (moment_at spots _ 3 refl refl) refl refl refl refl refl refl,
                  tt,
                ),
              ),
            ),
          ),
        ),
      );
    }

pub returns-clause-not_serial : goal.returns-clause-not_serial
returns-clause-not_serial c = λ serial. some_row_is_none (full web 3 2) [] serial.1.1.1.0.no_rows
