use Rattle.std.proofs.Common.{take}
use Rattle.std.specs.List.{AllByRecursion}
use Rattle.pol_entry_changes.specs.PeerRow.{NamesMove}
use Rattle.pol_entry_changes.proofs.moves.moved_selectors.Given as goal

abbrev pub invariant-loop-one : goal.invariant-loop-one
invariant-loop-one l = AllByRecursion (NamesMove l.few.items) (take l.one-index l.moves)
