use Rattle.std.proofs.Common.{refl, arith}
use Rattle.pol_run.specs.Spots.{spots_of}
use Rattle.pol_run.specs.History.{commits_of}
use Rattle.pol_run.specs.ExampleLines.{two_entries}
use Rattle.pol_run.specs.RightRuns.{map_of_the_limit}
use Rattle.pol_run.proofs.Examples.{web_since}
use Rattle.pol_run.proofs.RightExamples.{ascending_from, moment_at, verdict_at, not_large_alone}
use Rattle.pol_run.proofs.allowed.map_of_the_limit.Goals as goal

pub returns : goal.returns
returns c =
    let spots = spots_of map_of_the_limit in
    record {
      numbered = record {
        from_one = ((omega arith, omega arith), tt);
        each_once = (tt, tt);
        ascending = ascending_from (commits_of spots) refl;
      };
      right = (
        record { no_fault = refl; identity = refl },
        (
          record {
            is_moment = moment_at spots _ 1 refl refl;
            rows = tt;
            ascend = tt;
            distinct = tt;
            complete = λ name added large.
                absurd (not_large_alone two_entries spots name added 1 (web_since 1) (large 1 (omega arith) (omega arith)) refl refl);
          },
          (
            verdict_at two_entries spots _ _ 1 _ 1 (web_since 1) (moment_at spots _ 1 refl refl) refl refl refl refl refl refl,
            tt,
          ),
        ),
      );
    }
