-- Half a block begins where the block does, with one more bit that counts.
use Rattle.std.proofs.Common.{arith}
use Rattle.pol_ports.proofs.Steps.{lower_clear}
use Rattle.pol_ports.proofs.cover.lower_half.Goals as goal

pub invariant_of-result : goal.invariant_of-result
invariant_of-result c = record { short = omega arith; clear = lower_clear c.args.block }
