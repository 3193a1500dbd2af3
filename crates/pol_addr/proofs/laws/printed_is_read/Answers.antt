use Rattle.pol_addr.proofs.Printed.{addr-printed, prefix-printed}
use Rattle.pol_addr.proofs.laws.printed_is_read.Goals as goal

pub returns-clause-addresses : goal.returns-clause-addresses
returns-clause-addresses c = addr-printed

pub returns-clause-prefixes : goal.returns-clause-prefixes
returns-clause-prefixes c = prefix-printed
