use Rattle.std.proofs.Common.{sym, subst}
use Rattle.std.specs.List.Sorted.{IsStrictlySortedBy}
use Rattle.std.specs.Ordering.{nat_cmp}
use Rattle.std.proofs.lemmas.List.Kept.{IsStrictlySortedBy-filter}
use Rattle.pol_sets.proofs.Between.{above_of}
use Rattle.pol_sets.proofs.stretches.push_below.Goals as goal

pub split_below-requires-2 : goal.split_below-requires-2
split_below-requires-2 c =
    subst (IsStrictlySortedBy nat_cmp) (sym c.split_below.ensures.others) (IsStrictlySortedBy-filter nat_cmp _ c.args.numbers.now c.requires)

pub returns-clause-above : goal.returns-clause-above
returns-clause-above c =
    above_of c.args.number _ c.args.numbers.now _ _ c.from-bound.ensures c.split_below.ensures.others c.split_below-2.ensures.others
