use Rattle.std.proofs.Common.{sym, subst}
use Rattle.std.specs.List.Sorted.{IsStrictlySortedBy}
use Rattle.std.specs.Ordering.{nat_cmp}
use Rattle.engine_bench.proofs.Numbered.{eleven_ascend}
use Rattle.engine_bench.proofs.delta.inputs.eleven.Goals as goal

pub from_ascending-requires : goal.from_ascending-requires
from_ascending-requires c = record { ascending = subst (IsStrictlySortedBy nat_cmp) (sym c.in_ok-ids.ensures.items) eleven_ascend }
