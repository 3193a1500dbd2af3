use Rattle.std.proofs.Common.{refl, arith}
use Rattle.pol_run.specs.Spots.{spots_of}
use Rattle.pol_run.specs.History.{commits_of}
use Rattle.pol_run.specs.ExampleLines.{unlimited}
use Rattle.pol_run.specs.RightRuns.{older_map}
use Rattle.pol_run.proofs.Examples.{web_since, less_is_same}
use Rattle.pol_run.proofs.RightExamples.{ascending_from, moment_at, verdict_at, not_yet_at, none_too_large}
use Rattle.pol_run.proofs.allowed.older_map.Goals as goal

pub returns-clause-run : goal.returns-clause-run
returns-clause-run c =
    let spots = spots_of older_map in
    record {
      numbered = record {
        from_one = ((omega arith, omega arith), ((omega arith, omega arith), tt));
        each_once = (((omega arith), tt), (tt, tt));
        ascending = ascending_from (commits_of spots) refl;
      };
      right = (
        record { no_fault = refl; identity = refl },
        (
          record { no_fault = refl; identity = refl },
          (
            record { is_moment = moment_at spots _ 1 refl refl; explains = refl },
            (
              record {
                is_moment = moment_at spots _ 2 refl refl;
                rows = tt;
                ascend = tt;
                distinct = tt;
                complete = λ name added large. absurd (none_too_large unlimited spots name added 2 refl (large 2 (omega arith) (omega arith)));
              },
              (
                verdict_at unlimited spots _ _ 2 _ 2 (web_since 1) (moment_at spots _ 2 refl refl) refl refl refl refl refl refl,
                (
                  not_yet_at unlimited spots _ _ 2 (web_since 1) 0 (moment_at spots _ 2 refl refl) refl refl refl,
                  (
                    verdict_at unlimited spots _ _ 1 _ 2 (web_since 1) (moment_at spots _ 2 refl refl) refl refl refl refl refl refl,
                    tt,
                  ),
                ),
              ),
            ),
          ),
        ),
      );
    }

pub returns-clause-not_serial : goal.returns-clause-not_serial
returns-clause-not_serial c = λ serial. less_is_same 1 2 (omega arith) serial.1.1.0.now
