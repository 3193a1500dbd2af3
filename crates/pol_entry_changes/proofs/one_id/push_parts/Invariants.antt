use Rattle.std.proofs.Common.{◌≡◌, ◌++◌, map, take}
use Rattle.pol_entry_changes.specs.OneId.{part_entry}
use Rattle.pol_entry_changes.proofs.one_id.push_parts.Given as goal

abbrev pub invariant-loop-part : goal.invariant-loop-part
invariant-loop-part l = l.out.items ≡ l.initial.out.items ++ map (part_entry l.dir l.kind l.id l.proto) (take l.part-index l.parts)
