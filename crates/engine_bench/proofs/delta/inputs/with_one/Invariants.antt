use Rattle.std.proofs.Common.{◌≡◌, take}
use Rattle.engine_bench.proofs.delta.inputs.with_one.Given as goal

-- the filters so far are copied
abbrev pub invariant-loop-own : goal.invariant-loop-own
invariant-loop-own l = l.list.items ≡ take l.own-index l.few
