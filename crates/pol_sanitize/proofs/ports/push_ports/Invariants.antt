use Rattle.std.proofs.Common.{◌≡◌, ◌||◌, ◌++◌, drop, filter_map}
use Rattle.std.specs.List.{list_any}
use Rattle.pol_sanitize.specs.Ports.{is_bad_port, is_bad_protocol, spec_of}
use Rattle.pol_sanitize.proofs.ports.push_ports.Given as goal

abbrev pub invariant-loop-port : goal.invariant-loop-port
invariant-loop-port l = record {
  specs : l.specs.items ++ filter_map spec_of (drop l.port-index l.ports) ≡ l.initial.specs.items ++ filter_map spec_of l.ports;
  bad : list_any is_bad_port (drop l.port-index l.ports) ≡ list_any is_bad_port l.ports;
  unknown : (l.unknown || list_any is_bad_protocol (drop l.port-index l.ports)) ≡ list_any is_bad_protocol l.ports;
}
