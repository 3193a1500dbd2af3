use Rattle.pol_addr.proofs.ByFamily.{IsPrefix-cleared}
use Rattle.pol_addr.proofs.network.Prefix.new.Goals as goal

pub invariant_of-result : goal.invariant_of-result
invariant_of-result c = rw c.clear_host_bits.ensures.value (IsPrefix-cleared c.args.len c.args.addr c.requires c.clear_host_bits.ensures.within)
