use Rattle.std.proofs.Common.{◌≡◌, List}
use Rattle.pol_model.specs.declared.row.IdentityRow.{IdentityRow}
use Rattle.pol_model.specs.Remote.{numbered_prefixes}
use Rattle.pol_connections.specs.Regions.{longest_over}
use Rattle.pol_connection_maps.specs.Named.{AreNumbersOf}
use Rattle.pol_connection_maps.proofs.Around.{over_below}
use Rattle.pol_connection_maps.proofs.regions.longest_number.Given as goal

abbrev pub invariant-loop-len : goal.invariant-loop-len
invariant-loop-len l = (rows : List IdentityRow) → AreNumbersOf rows l.numbers → longest_over l.region (numbered_prefixes rows) ≡ over_below l.region l.len (numbered_prefixes rows)
