use Rattle.std.proofs.Common.{◌≡◌, take}
use Rattle.std.specs.List.{flat_map}
use Rattle.pol_set_moves.specs.Moves.{move_since}
use Rattle.pol_set_moves.proofs.moves.moves_since.Given as goal

abbrev pub invariant-loop-row : goal.invariant-loop-row
invariant-loop-row l = l.moves.items ≡ flat_map (λ row. move_since l.cache.log l.next l.revision row.selector) (take l.row-index l.sets)
