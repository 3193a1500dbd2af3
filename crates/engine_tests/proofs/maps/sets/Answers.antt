use Rattle.std.proofs.Common.{rules, ◌≡◌, [], ◌∷◌, sym, subst}
use Rattle.std.specs.List.Sorted.{IsStrictlySortedBy}
use Rattle.std.specs.Ordering.{nat_cmp}
use Rattle.engine_tests.proofs.maps.sets.Goals as goal

pub from_ascending-requires : goal.from_ascending-requires
unfolding IsStrictlySortedBy
from_ascending-requires c =
    let items : c.push.new.self.items ≡ 257 ∷ [] = search rules in
    let single : IsStrictlySortedBy nat_cmp (257 ∷ []) = (tt, tt) in
    record { ascending = subst (IsStrictlySortedBy nat_cmp) (sym items) single }
