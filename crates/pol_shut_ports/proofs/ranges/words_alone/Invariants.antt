use Rattle.std.proofs.Common.{◌≡◌, map, take}
use Rattle.pol_shut_ports.specs.Pairs.{open_at}
use Rattle.pol_shut_ports.proofs.ranges.words_alone.Given as goal

abbrev pub invariant-loop-port : goal.invariant-loop-port
invariant-loop-port l = l.words.items ≡ map (open_at l.sent l.received) (take l.port-index l.ports)
