use Rattle.std.proofs.Common.{◌≡◌, drop}
use Rattle.pol_sets.specs.Sets.{set_given}
use Rattle.pol_kept_map.proofs.giving.set_has.Given as goal

-- no row in front is the peer's
abbrev pub invariant-loop-i : goal.invariant-loop-i
invariant-loop-i l = set_given (drop l.i l.rows) l.peer ≡ set_given l.rows l.peer
