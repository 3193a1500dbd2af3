use Rattle.std.proofs.Common.{refl, sym, arith}
use Rattle.pol_run.specs.Spots.{spots_of}
use Rattle.pol_run.specs.History.{commits_of}
use Rattle.pol_run.specs.ExampleLines.{unlimited}
use Rattle.pol_run.specs.RightRuns.{interleaved}
use Rattle.pol_run.proofs.Examples.{web_since, less_is_same}
use Rattle.pol_run.proofs.RightExamples.{ascending_from, moment_at, verdict_at}
use Rattle.pol_run.proofs.allowed.interleaved.Goals as goal

pub returns-clause-run : goal.returns-clause-run
returns-clause-run c =
    let spots = spots_of interleaved in
    record {
      numbered = record {
        from_one = ((omega arith, omega arith), ((omega arith, omega arith), ((omega arith, omega arith), tt)));
        each_once = (((omega arith), ((omega arith), tt)), (((omega arith), tt), (tt, tt)));
        ascending = ascending_from (commits_of spots) refl;
      };
      right = (
        record { no_fault = refl; identity = refl },
        (
          record { no_fault = refl; identity = refl },
          (
            refl,
            (
              record { no_fault = refl; identity = refl },
              (
                refl,
                (
                  verdict_at unlimited spots _ _ 3 _ 3 (web_since 3) (moment_at spots _ 3 refl refl) refl refl refl refl refl refl,
                  tt,
                ),
              ),
            ),
          ),
        ),
      );
    }

pub returns-clause-not_serial : goal.returns-clause-not_serial
returns-clause-not_serial c = λ serial. less_is_same 1 2 (omega arith) (sym serial.0.next)
