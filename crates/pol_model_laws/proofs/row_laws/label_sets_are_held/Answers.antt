use Rattle.pol_model.specs.Identities.{number_of_labels}
use Rattle.pol_model.proofs.AscendingStates.{labels_ascend}
use Rattle.pol_model_laws.proofs.HoldingLaws.{held_adds, held_has, labels_row_is}
use Rattle.pol_model_laws.proofs.Parts.{part-labels_held}
use Rattle.pol_model_laws.proofs.RowCounts.{labels-count}
use Rattle.pol_model_laws.proofs.row_laws.label_sets_are_held.Goals as goal

pub returns : goal.returns
returns c = record {
  kept = part-labels_held;
  one = λ labels rows number. held_adds (number_of_labels labels rows) _ rows number;
  row = λ labels rows. held_has _ _ rows;
  its_labels = λ labels rows row ascend. labels_row_is labels rows ascend row;
  count = labels-count;
  ascend = labels_ascend;
}
