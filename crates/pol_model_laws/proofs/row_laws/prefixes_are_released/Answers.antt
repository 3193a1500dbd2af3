use Rattle.pol_model.proofs.AscendingStates.{prefixes_released_ascend}
use Rattle.pol_model_laws.proofs.Parts.{part-prefixes_released}
use Rattle.pol_model_laws.proofs.PolicyHolders.{times_once}
use Rattle.pol_model_laws.proofs.RowCounts.{released-count, released-goes}
use Rattle.pol_model_laws.proofs.row_laws.prefixes_are_released.Goals as goal

pub returns : goal.returns
returns c = record {
  kept = part-prefixes_released;
  count = released-count;
  gone = released-goes;
  once = λ row policy. times_once row.prefix policy;
  ascend = prefixes_released_ascend;
}
