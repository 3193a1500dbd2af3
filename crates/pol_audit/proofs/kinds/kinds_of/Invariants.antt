use Rattle.std.proofs.Common.{◌≡◌, ◌+◌, ◌*◌, ◌≤◌, length, map, take}
use Rattle.pol_audit.specs.Kinds.{kind_at}
use Rattle.pol_audit.proofs.Open.{IsHeld, port_before}
use Rattle.pol_audit.proofs.kinds.kinds_of.Given as goal

abbrev pub invariant-loop-port : goal.invariant-loop-port
invariant-loop-port g l = record {
  kinds : l.kinds.items ≡ map (kind_at l.entries) (take l.port-index l.ports);
  held : IsHeld l.entries l.held.items l.next (port_before l.ports l.port-index);
  forward : l.initial.steps ≤ l.steps;
  cost : l.steps + length l.held.items ≤ l.initial.steps + 2 * l.next + l.port-index;
}
