use Rattle.std.proofs.Common.{◌≡◌, ◌++◌, List, drop}
use Rattle.pol_connection_maps.specs.declared.end_row.EndRow.{EndRow}
use Rattle.pol_connection_maps.specs.Lists.{names_alone}
use Rattle.pol_connection_maps.specs.Named.{AreFirsts}
use Rattle.pol_connection_maps.proofs.alone.names_beside.Given as goal

abbrev pub invariant-loop-row : goal.invariant-loop-row
invariant-loop-row l =
    (one : List EndRow) → AreFirsts (λ (row : EndRow). row.name) one l.firsts → l.names.items ++ names_alone one (drop l.row-index l.other) ≡ names_alone one l.other
