-- No change is in key order.
use Rattle.std.proofs.Common.{List, [], sym, subst}
use Rattle.std.specs.List.Sorted.{IsStrictlySortedBy}
use Rattle.pol_map_changes.specs.Changes.{IsAscending}
use Rattle.pol_map_changes.specs.declared.change.Change.{Change}
use Rattle.pol_slot_map.proofs.pending.no_changes.Goals as goal

none_ascend : IsAscending []
unfolding IsStrictlySortedBy
none_ascend = tt

pub from_vec-requires : goal.from_vec-requires
from_vec-requires c = record { ascending = subst (λ (changes : List Change). IsAscending changes) (sym c.new.ensures.items) none_ascend }
