use Rattle.std.proofs.Common.{◌≡◌, take}
use Rattle.pol_map_changes.specs.Changes.{whole}
use Rattle.pol_map_changes.proofs.list.ChangeList.whole.Given as goal

-- the entries so far are set
abbrev pub invariant-loop-entry : goal.invariant-loop-entry
invariant-loop-entry l = l.changes.items ≡ whole (take l.entry-index l.entries)
