use Rattle.std.proofs.Common.{◌≡◌, ◌==◌, drop, find}
use Rattle.pol_entry_changes.proofs.moves.first_of.Given as goal

-- no move in front is of the selector
abbrev pub invariant-loop-i : goal.invariant-loop-i
invariant-loop-i l = find (λ m. m.selector == l.selector) (drop l.i l.moves) ≡ find (λ m. m.selector == l.selector) l.moves
