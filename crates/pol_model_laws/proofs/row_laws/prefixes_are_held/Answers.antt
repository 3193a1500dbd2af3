use Rattle.pol_model.proofs.AscendingStates.{prefixes_held_ascend}
use Rattle.pol_model_laws.proofs.Parts.{part-prefixes_held}
use Rattle.pol_model_laws.proofs.RowCounts.{prefixes-count}
use Rattle.pol_model_laws.proofs.FoundRows.{each-prefix_held, theirs-held}
use Rattle.pol_model_laws.proofs.row_laws.prefixes_are_held.Goals as goal

pub returns : goal.returns
returns c = record {
  kept = part-prefixes_held;
  theirs = theirs-held;
  each = each-prefix_held;
  count = prefixes-count;
  ascend = prefixes_held_ascend;
}
