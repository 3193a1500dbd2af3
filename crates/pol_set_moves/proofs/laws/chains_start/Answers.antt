use Rattle.pol_set_moves.proofs.Chains.{chain_starts}
use Rattle.pol_set_moves.proofs.laws.chains_start.Goals as goal

pub returns : goal.returns
returns c = chain_starts
