use Rattle.std.proofs.Common.{arith}
use Rattle.pol_addr.proofs.ByFamily.{width_most}
use Rattle.pol_addr.proofs.network.Prefix.len.Goals as goal

pub returns-clause-within : goal.returns-clause-within
returns-clause-within c = let valid = c.self.invariant in omega (arith, valid.len_in_range, width_most c.self.inside.addr)
