use Rattle.std.proofs.Common.{refl, arith}
use Rattle.std.proofs.lemmas.Bool.{false≢true}
use Rattle.pol_run.specs.Spots.{spots_of}
use Rattle.pol_run.specs.History.{commits_of}
use Rattle.pol_run.specs.ExampleLines.{one_entry}
use Rattle.pol_run.specs.RightRuns.{no_row_where_it_fits}
use Rattle.pol_run.proofs.Examples.{web_since}
use Rattle.pol_run.proofs.RightExamples.{ascending_from, moment_at, not_large_alone}
use Rattle.pol_run.proofs.allowed.no_row_where_it_fits.Goals as goal

pub returns-clause-run : goal.returns-clause-run
returns-clause-run c =
    let spots = spots_of no_row_where_it_fits in
    record {
      numbered = record {
        from_one = ((omega arith, omega arith), ((omega arith, omega arith), tt));
        each_once = (((omega arith), tt), (tt, tt));
        ascending = ascending_from (commits_of spots) refl;
      };
      right = (
        record { no_fault = refl; identity = refl },
        (
          record {
            is_moment = moment_at spots _ 1 refl refl;
            rows = tt;
            ascend = tt;
            distinct = tt;
            complete = λ name added large.
                absurd (not_large_alone one_entry spots name added 2 (web_since 1) (large 2 (omega arith) (omega arith)) refl refl);
          },
          (record { no_fault = refl; identity = refl }, tt),
        ),
      );
    }

pub returns-clause-not_serial : goal.returns-clause-not_serial
returns-clause-not_serial c = λ serial. false≢true serial.1.0.all_fit.0
