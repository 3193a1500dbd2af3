use Rattle.std.proofs.Common.{◌≡◌, ◌++◌, take}
use Rattle.std.specs.List.{flat_map}
use Rattle.pol_shut_ports.specs.Pairs.{ends_of}
use Rattle.pol_shut_ports.proofs.cuts.push_cuts.Given as goal

abbrev pub invariant-loop-range : goal.invariant-loop-range
invariant-loop-range l = l.cuts.items ≡ l.initial.cuts.items ++ flat_map ends_of (take l.range-index l.ranges)
