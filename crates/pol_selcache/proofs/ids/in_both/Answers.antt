use Rattle.std.proofs.Common.{sym, subst}
use Rattle.std.specs.List.Sorted.{IsStrictlySortedBy}
use Rattle.std.specs.Ordering.{nat_cmp}
use Rattle.std.proofs.lemmas.List.Kept.{IsStrictlySortedBy-filter}
use Rattle.pol_set_changes.specs.Ids.{has}
use Rattle.pol_selcache.proofs.ids.in_both.Goals as goal

pub from_ascending-requires : goal.from_ascending-requires
from_ascending-requires c = record {
  ascending = subst (IsStrictlySortedBy nat_cmp) (sym c.in_ok-both.ensures) (IsStrictlySortedBy-filter nat_cmp (λ n. has n c.args.others.now) c.args.numbers.now c.only.ensures.set.ascends);
}
