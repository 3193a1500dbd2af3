use Rattle.pol_model_laws.proofs.FoundRows.{found-labels, found-number, found-prefix, none-zero, reserved-there, row-kinds}
use Rattle.pol_model_laws.proofs.RowLedger.{begins}
use Rattle.pol_model_laws.proofs.row_laws.rows_are_found.Goals as goal

pub returns : goal.returns
returns c = record {
  number = λ rows row keeps. found-number rows keeps row;
  labels = λ rows row keeps. found-labels rows keeps row;
  prefix = λ rows row prefix keeps. found-prefix rows keeps row prefix;
  first = λ rows keeps. begins keeps;
  reserved = λ rows row keeps. reserved-there rows keeps row;
  kinds = λ rows row keeps. row-kinds rows keeps row;
  none = none-zero;
}
