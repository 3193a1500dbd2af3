use Rattle.std.proofs.Common.{◌≡◌, map, take}
use Rattle.pol_shut_ports.specs.Pairs.{changed_at}
use Rattle.pol_shut_ports.proofs.ranges.words_changed.Given as goal

abbrev pub invariant-loop-port : goal.invariant-loop-port
invariant-loop-port l = l.words.items ≡ map (changed_at l.halves l.sent_before l.received_before l.sent l.received) (take l.port-index l.ports)
