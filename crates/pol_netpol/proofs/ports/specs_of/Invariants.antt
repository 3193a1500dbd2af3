use Rattle.std.proofs.Common.{◌≡◌, ◌++◌, drop, filter_map}
use Rattle.pol_netpol.specs.Translated.{spec_of}
use Rattle.pol_netpol.proofs.ports.specs_of.Given as goal

abbrev pub invariant-loop-port : goal.invariant-loop-port
invariant-loop-port l = l.specs.items ++ filter_map spec_of (drop l.port-index l.ports) ≡ filter_map spec_of l.ports
