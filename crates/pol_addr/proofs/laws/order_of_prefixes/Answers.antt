use Rattle.pol_addr.proofs.Order.{cmp-prefix_cmp}
use Rattle.pol_addr.proofs.laws.order_of_prefixes.Goals as goal

pub returns : goal.returns
returns c = cmp-prefix_cmp
