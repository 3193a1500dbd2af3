use Rattle.std.proofs.Common.{refl, arith}
use Rattle.pol_run.specs.Spots.{spots_of}
use Rattle.pol_run.specs.History.{commits_of}
use Rattle.pol_run.specs.ExampleLines.{unlimited}
use Rattle.pol_run.specs.RightRuns.{new_endpoints}
use Rattle.pol_run.proofs.Examples.{web_since, db_since}
use Rattle.pol_run.proofs.RightExamples.{ascending_from, moment_at, verdict_at, not_yet_at, none_too_large}
use Rattle.pol_run.proofs.allowed.new_endpoints.Goals as goal

pub returns : goal.returns
returns c =
    let spots = spots_of new_endpoints in
    record {
      numbered = record {
        from_one = ((omega arith, omega arith), ((omega arith, omega arith), ((omega arith, omega arith), ((omega arith, omega arith), tt))));
        each_once = (
          ((omega arith), ((omega arith), ((omega arith), tt))),
          (((omega arith), ((omega arith), tt)), (((omega arith), tt), (tt, tt))),
        );
        ascending = ascending_from (commits_of spots) refl;
      };
      right = (
        record { no_fault = refl; identity = refl },
        (
          verdict_at unlimited spots _ _ 1 _ 1 (web_since 1) (moment_at spots _ 1 refl refl) refl refl refl refl refl refl,
          (
            record {
              is_moment = moment_at spots _ 1 refl refl;
              rows = tt;
              ascend = tt;
              distinct = tt;
              complete = λ name added large. absurd (none_too_large unlimited spots name added 1 refl (large 1 (omega arith) (omega arith)));
            },
            (
              record { no_fault = refl; identity = refl },
              (
                record { no_fault = refl; identity = refl },
                (
                  record { no_fault = refl; identity = refl },
                  (
                    not_yet_at unlimited spots _ _ 4 (web_since 3) 2 (moment_at spots _ 4 refl refl) refl refl refl,
                    (
                      verdict_at unlimited spots _ _ 4 _ 4 (web_since 3) (moment_at spots _ 4 refl refl) refl refl refl refl refl refl,
                      (
                        not_yet_at unlimited spots _ _ 4 (db_since 4) 3 (moment_at spots _ 4 refl refl) refl refl refl,
                        tt,
                      ),
                    ),
                  ),
                ),
              ),
            ),
          ),
        ),
      );
    }
