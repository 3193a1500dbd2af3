use Rattle.std.proofs.Common.{◌≡◌, drop}
use Rattle.pol_shut_ports.specs.Shut.{word_in}
use Rattle.pol_shut_ports.proofs.word.word_at.Given as goal

abbrev pub invariant-loop-range : goal.invariant-loop-range
invariant-loop-range l = word_in (drop l.range-index l.ranges) l.port ≡ word_in l.ranges l.port
