use Rattle.std.proofs.Common.{◌≡◌, ◌+◌, ◌≤◌, ◌++◌, length}
use Rattle.pol_audit.specs.Tables.{IsTable}
use Rattle.pol_audit.specs.Text.{AreKept, text_of}
use Rattle.pol_audit.proofs.read.read_entries.Given as goal

-- what was read, and what is left
abbrev pub invariant-loop-rest : goal.invariant-loop-rest
invariant-loop-rest l = record {
  split : l.text ≡ text_of l.table.items ++ l.rest;
  table : IsTable l.table.items;
  kept : AreKept l.table.items;
  count : length l.table.items + length l.rest ≤ length l.text;
}

abbrev pub decreases-loop-rest : goal.decreases-loop-rest
decreases-loop-rest l = length l.rest
