use Rattle.pol_set_moves.proofs.Chains.{chain_horizon, chain_moves}
use Rattle.pol_set_moves.proofs.MoveLaws.{moves_told}
use Rattle.pol_set_moves.proofs.laws.chains_tell.Goals as goal

pub returns : goal.returns
returns c = record {
  horizon = chain_horizon;
  moves = chain_moves;
  rows = moves_told;
}
