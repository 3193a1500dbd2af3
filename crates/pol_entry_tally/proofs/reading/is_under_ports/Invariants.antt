use Rattle.std.proofs.Common.{◌≡◌}
use Rattle.pol_ports.specs.PortPrefix.{prefix_at}
use Rattle.pol_mapkey.specs.MapKey.{port_key}
use Rattle.pol_mapkey.specs.declared.Kind.TheVariants.{Deny}
use Rattle.pol_entry_tally.specs.Counts.{held}
use Rattle.pol_entry_tally.specs.Times.{any_below, is_given}
use Rattle.pol_entry_tally.proofs.reading.is_under_ports.Given as goal

abbrev pub invariant-loop-len : goal.invariant-loop-len
invariant-loop-len l = l.under ≡ any_below (λ m. is_given (held l.counts) Deny (port_key l.key.dir l.key.id l.proto (prefix_at l.key.port.bits m))) l.len
