use Rattle.std.proofs.Common.{refl, arith}
use Rattle.pol_history.specs.ExampleEvents.{at_most}
use Rattle.pol_history.specs.SmallHistories.{of_two_passes}
use Rattle.pol_history.proofs.LegalEvents.{each_legal}
use Rattle.pol_history.proofs.Small.{web_row}
use Rattle.pol_history.proofs.examples.legal.Goals as goal

pub returns : goal.returns
returns c = each_legal (at_most 1) of_two_passes (
  record { no_fault = refl; next = refl },
  (
    record {
      report = record { live = record { row = web_row 1; found = refl }; committed = omega arith; since_added = omega arith; newer = tt; no_older_commits = tt };
      size = refl;
      too_many = refl;
    },
    (
      record { no_fault = refl; next = refl },
      (
        record {
          report = record { live = record { row = web_row 1; found = refl }; committed = omega arith; since_added = omega arith; newer = omega arith; no_older_commits = omega arith };
          canonical = refl;
          fits = refl;
        },
        (
          record { no_fault = refl; next = refl },
          (
            record { no_fault = refl; next = refl },
            (
              record {
                report = record { live = record { row = web_row 4; found = refl }; committed = omega arith; since_added = omega arith; newer = tt; no_older_commits = tt };
                canonical = refl;
                fits = refl;
              },
              tt,
            ),
          ),
        ),
      ),
    ),
  ),
)
