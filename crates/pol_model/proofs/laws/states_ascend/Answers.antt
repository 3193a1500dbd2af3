use Rattle.pol_model.proofs.AscendingStates.{state_rows_ascend, state_slots_ascend}
use Rattle.pol_model.proofs.laws.states_ascend.Goals as goal

pub returns : goal.returns
returns c = record {
  identities = state_rows_ascend;
  endpoints = state_slots_ascend;
}
