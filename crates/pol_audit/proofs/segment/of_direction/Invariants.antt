use Rattle.std.proofs.Common.{◌≡◌, take, filter}
use Rattle.pol_ports.specs.Direction.{same_direction}
use Rattle.pol_mapkey.specs.Entries.{Entry}
use Rattle.pol_audit.proofs.segment.of_direction.Given as goal

abbrev pub invariant-loop-entry : goal.invariant-loop-entry
invariant-loop-entry l = l.part.items ≡ filter (λ (e : Entry). same_direction e.0.dir l.dir) (take l.entry-index l.entries)
