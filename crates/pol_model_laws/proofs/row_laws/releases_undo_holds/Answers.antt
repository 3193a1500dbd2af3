use Rattle.pol_model_laws.proofs.RowLaws.{labels_undone, prefixes_undone}
use Rattle.pol_model_laws.proofs.row_laws.releases_undo_holds.Goals as goal

pub returns : goal.returns
returns c = record {
  labels = labels_undone;
  prefixes = prefixes_undone;
}
