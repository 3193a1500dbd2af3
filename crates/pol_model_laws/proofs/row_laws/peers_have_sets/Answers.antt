use Rattle.pol_model_laws.proofs.HoldingLaws.{part_set}
use Rattle.pol_model_laws.proofs.SelectedPeerSets.{selected, set_ascends}
use Rattle.pol_model_laws.proofs.row_laws.peers_have_sets.Goals as goal

pub returns : goal.returns
returns c = record {
  ascends = set_ascends;
  selected = selected;
  part = part_set;
}
