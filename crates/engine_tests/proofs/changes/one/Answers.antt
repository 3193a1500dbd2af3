use Rattle.std.specs.List.Sorted.{IsStrictlySortedBy}
use Rattle.engine_tests.proofs.changes.one.Goals as goal

pub from_ascending-requires : goal.from_ascending-requires
unfolding IsStrictlySortedBy
from_ascending-requires c = record { ascending = rw (c.in_ok-push.ensures.items, c.new-ids.ensures.items) (tt, tt) }
