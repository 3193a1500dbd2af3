use Rattle.std.proofs.Common.{◌≡◌, ◌++◌, drop, filter, map}
use Rattle.pol_connection_maps.specs.Maps.{may_be_subject, number_maps, row_entries}
use Rattle.pol_connection_maps.proofs.maps.number_maps.Given as goal

abbrev pub invariant-loop-row : goal.invariant-loop-row
invariant-loop-row l = l.maps.items ++ map (row_entries l.rows l.sets) (filter may_be_subject (drop l.row-index l.rows.identities.now)) ≡ number_maps l.rows l.sets
