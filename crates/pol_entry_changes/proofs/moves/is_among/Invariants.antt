use Rattle.std.proofs.Common.{take}
use Rattle.pol_entry_changes.specs.PeerRow.{Lacks}
use Rattle.pol_entry_changes.proofs.moves.is_among.Given as goal

abbrev pub invariant-loop-one : goal.invariant-loop-one
invariant-loop-one l = Lacks (take l.one-index l.numbers) l.number
