use Rattle.std.proofs.Common.{◌≡◌, map, take}
use Rattle.pol_slot_map.specs.Renewed.{clear_of}
use Rattle.pol_slot_map.proofs.pending.clear_each.Given as goal

-- those in front are cleared
abbrev pub invariant-loop-change : goal.invariant-loop-change
invariant-loop-change l = l.clears.items ≡ map clear_of (take l.change-index l.changes)
