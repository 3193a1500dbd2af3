-- Each half's prefix is one bit longer.
use Rattle.std.proofs.Common.{◌-◌}
use Rattle.pol_ports.proofs.cover.+push_parts.Given as goal

abbrev pub decreases-push_parts : goal.decreases-push_parts
decreases-push_parts l = 16 - l.block.len
