use Rattle.std.proofs.Common.{◌≡◌, ◌++◌, take}
use Rattle.std.specs.String.{string_bytes}
use Rattle.std.specs.List.{flat_map}
use Rattle.pol_answer.specs.Text.{full_slot_text}
use Rattle.pol_answer.proofs.parts.push_full_slots.Given as goal

-- what was written so far is the text of the maps so far
abbrev pub invariant-loop-slot : goal.invariant-loop-slot
invariant-loop-slot l = string_bytes l.out ≡ string_bytes l.fn.out ++ flat_map full_slot_text (take l.slot-index l.full)
