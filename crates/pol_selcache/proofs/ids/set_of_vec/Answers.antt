use Rattle.std.proofs.lemmas.List.Filters.{dedup_is}
use Rattle.std.proofs.lemmas.List.Kept.{Contains-dedup_nat, Contains-from_dedup}
use Rattle.std.proofs.lemmas.List.Sorted.{Contains-permutation, IsPermutation-sym}
use Rattle.std.proofs.lemmas.Map.Keys.{IsStrictlyIncreasing-dedup, sorted_from_strictly_increasing}
use Rattle.pol_selcache.proofs.Numbers.{same_has}
use Rattle.pol_selcache.proofs.ids.set_of_vec.Goals as goal

pub from_ascending-requires : goal.from_ascending-requires
from_ascending-requires c =
    let is = dedup_is _ _ _ c.dedup.ensures.filtered in
    record { ascending = rw is (sorted_from_strictly_increasing _ (IsStrictlyIncreasing-dedup _ c.in_ok-sort.ensures.sorted)) }

pub returns-clause-members : goal.returns-clause-members
returns-clause-members c =
    let is = dedup_is _ _ _ c.dedup.ensures.filtered in
    let moved = c.in_ok-sort.ensures.permutation in
    λ n. rw c.from_ascending.ensures (same_has n _ _
    (λ h. Contains-permutation _ _ n (IsPermutation-sym _ _ moved) (Contains-from_dedup _ _ n (rw is at h)))
    (λ h. rw is (Contains-dedup_nat _ n (Contains-permutation _ _ n moved h))))
