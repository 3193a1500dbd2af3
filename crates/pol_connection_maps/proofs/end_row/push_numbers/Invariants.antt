use Rattle.std.proofs.Common.{◌≡◌, ◌++◌, map}
use Rattle.pol_connection_maps.specs.EndRows.{number_row}
use Rattle.pol_connection_maps.proofs.end_row.push_numbers.Given as goal

-- the rows so far, and those of the names that are left, are all
abbrev pub invariant-loop-name : goal.invariant-loop-name
invariant-loop-name l = l.out.items ++ map number_row l.name-iterator ≡ l.initial.out.items ++ map number_row l.numbers.entries
