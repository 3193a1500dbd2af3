use Rattle.pol_model_laws.proofs.RowLaws.{keep_labels, keep_prefix, keep_prefixes, keep_prefixes_released, keep_released, start_rows}
use Rattle.pol_model_laws.proofs.row_laws.rows_keep.Goals as goal

pub returns : goal.returns
returns c = record {
  start = start_rows;
  labels = keep_labels;
  prefix = keep_prefix;
  prefixes = keep_prefixes;
  number = keep_released;
  prefixes_gone = keep_prefixes_released;
}
