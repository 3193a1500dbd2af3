use Rattle.pol_model_laws.proofs.FoundRows.{holders-reserved, holders-some, locals-few}
use Rattle.pol_model_laws.proofs.row_laws.rows_are_held.Goals as goal

pub returns : goal.returns
returns c = record {
  reserved = λ rows row keeps. holders-reserved rows keeps row;
  some = λ rows row keeps. holders-some rows keeps row;
  locals = locals-few;
}
