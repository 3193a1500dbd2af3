use Rattle.std.proofs.Common.{◌+◌, arith}
use Rattle.std.proofs.lemmas.Map.Keys.{sorted_from_strictly_increasing}
use Rattle.engine_bench.proofs.distill.identities.Goals as goal

pub from_ascending-requires : goal.from_ascending-requires
from_ascending-requires c = record {
  ascending = sorted_from_strictly_increasing c.loop-i.list.items (λ k within.
      let len = c.loop-i.invariant.0 in
      omega (arith, c.loop-i.invariant.1 k (omega (arith, len, within)), c.loop-i.invariant.1 (k + 1) (omega (arith, len, within))));
}
