use Rattle.pol_model.proofs.AscendingStates.{released_ascend}
use Rattle.pol_model_laws.proofs.Parts.{part-number_released}
use Rattle.pol_model_laws.proofs.RowCounts.{number-count, number-goes}
use Rattle.pol_model_laws.proofs.FoundRows.{alone-released}
use Rattle.pol_model_laws.proofs.row_laws.numbers_are_released.Goals as goal

pub returns : goal.returns
returns c = record {
  kept = part-number_released;
  alone = alone-released;
  count = number-count;
  gone = number-goes;
  ascend = released_ascend;
}
