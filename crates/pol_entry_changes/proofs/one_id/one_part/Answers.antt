use Rattle.std.proofs.Common.{arith}
use Rattle.pol_ports.proofs.OnePort.{one_part}
use Rattle.pol_entry_changes.proofs.one_id.one_part.Goals as goal

pub returns : goal.returns
returns c = one_part c.args.range c.requires.one (omega arith) c.one_port.result c.one_port.ensures.bits c.one_port.ensures.len
