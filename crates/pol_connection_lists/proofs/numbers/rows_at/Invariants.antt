use Rattle.std.proofs.Common.{◌≡◌, take}
use Rattle.pol_connection_lists.proofs.numbers.rows_at.Given as goal

abbrev pub invariant-loop-number : goal.invariant-loop-number
invariant-loop-number l = l.rows.items ≡ take l.number-index l.identities
