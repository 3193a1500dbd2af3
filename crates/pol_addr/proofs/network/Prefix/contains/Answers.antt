use Rattle.std.proofs.Common.{rules}
use Rattle.pol_addr.specs.Prefix.{contains}
use Rattle.pol_addr.proofs.network.Prefix.contains.Goals as goal

pub returns : goal.returns
unfolding contains
returns c = search rules
