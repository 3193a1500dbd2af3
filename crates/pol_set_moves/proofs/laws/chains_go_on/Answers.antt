use Rattle.pol_set_moves.proofs.Chains.{chain_goes_on, chain_stays, gains_undone}
use Rattle.pol_set_moves.proofs.laws.chains_go_on.Goals as goal

pub returns : goal.returns
returns c = record {
  done = chain_goes_on;
  stays = chain_stays;
  withdrawn = gains_undone;
}
