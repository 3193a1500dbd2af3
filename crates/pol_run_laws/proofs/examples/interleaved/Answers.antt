use Rattle.std.proofs.Common.{[], ◌∷◌, refl, arith}
use Rattle.pol_history.proofs.LegalEvents.{each_legal}
use Rattle.pol_run.specs.ExampleLines.{unlimited}
use Rattle.pol_run.specs.RightRuns as lines
use Rattle.pol_run_laws.specs.Examples as history
use Rattle.pol_run_laws.proofs.Placing.{placed_so}
use Rattle.pol_run_laws.proofs.examples.interleaved.Goals as goal

pub returns-clause-legal : goal.returns-clause-legal
returns-clause-legal c =
    each_legal unlimited history.interleaved (
      record { no_fault = refl; next = refl },
      (
        record { no_fault = refl; next = refl },
        (
          record { no_fault = refl; next = refl },
          (
            record {
              report = record {
                live = record { row = _; found = refl };
                committed = omega arith;
                since_added = omega arith;
                newer = tt;
                no_older_commits = tt;
              };
              canonical = refl;
              fits = refl;
            },
            tt,
          ),
        ),
      ),
    )

pub returns-clause-placed : goal.returns-clause-placed
returns-clause-placed c =
    placed_so unlimited history.interleaved lines.interleaved ((1, 2) ∷ (0, 1) ∷ (2, 2) ∷ (2, 3) ∷ (3, 3) ∷ (3, 4) ∷ []) (
      record { grows = refl; within = refl; own = refl; allowed = (0, record { place = 1; number = 0; there = refl; past = omega arith; revision = refl; identity = refl; slots = refl }) },
      (
        record { grows = refl; within = refl; own = refl; allowed = (0, record { place = 0; number = 0; there = refl; past = omega arith; revision = refl; identity = refl; slots = refl }) },
        (
          refl,
          (
            record { grows = refl; within = refl; own = refl; allowed = (1, record { place = 2; number = 1; there = refl; past = omega arith; revision = refl; identity = refl; slots = refl }) },
            (refl, (record { grows = refl; within = refl; own = refl; allowed = refl }, tt)),
          ),
        ),
      ),
    ) refl refl
