use Rattle.std.proofs.Common.{◌<◌, take}
use Rattle.std.specs.List.{All}
use Rattle.pol_mapkey.specs.Entries.{Entry}
use Rattle.pol_shut_ports.proofs.standing.are_numbers.Given as goal

abbrev pub invariant-loop-entry : goal.invariant-loop-entry
invariant-loop-entry l = All (λ (e : Entry). e.0.id < 4294967296) (take l.entry-index l.entries)
