use Rattle.pol_model_laws.proofs.KeepsAll.{state_keeps}
use Rattle.pol_model_laws.proofs.StateLaws.{keeps-after, keeps-start}
use Rattle.pol_model_laws.proofs.state_laws.states_keep.Goals as goal

pub returns : goal.returns
returns c = record {
  start = keeps-start;
  after = keeps-after;
  states = state_keeps;
}
