use Rattle.std.proofs.Common.{◌≡◌, ℕ, ◌+◌, ◌<◌, get_or, length}
use Rattle.engine_bench.proofs.distill.identities.Given as goal

-- the numbers so far are those from 256 on
abbrev pub invariant-loop-i : goal.invariant-loop-i
invariant-loop-i l = (length l.list.items ≡ l.i) × ((k : ℕ) → k < l.i → get_or l.list.items k 0 ≡ 256 + k)
