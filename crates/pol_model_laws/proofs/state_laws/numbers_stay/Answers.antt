use Rattle.pol_model_laws.proofs.StateLaws.{labels-stay, prefix-stays, row-stays}
use Rattle.pol_model_laws.proofs.state_laws.numbers_stay.Goals as goal

pub returns : goal.returns
returns c = record {
  row = row-stays;
  labels = labels-stay;
  prefix = prefix-stays;
}
