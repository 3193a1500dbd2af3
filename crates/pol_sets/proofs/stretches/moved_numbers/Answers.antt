use Rattle.std.proofs.Common.{◌≡◌, IfOk, length, sym, subst, ◌∙◌, arith}
use Rattle.std.specs.List.Sorted.{IsStrictlySortedBy}
use Rattle.std.specs.Ordering.{nat_cmp}
use Rattle.std.proofs.lemmas.Grind.{common_steps}
use Rattle.pol_sets.specs.Ids.{union}
use Rattle.pol_sets.proofs.IdLemmas.{without-ascends}
use Rattle.pol_sets.proofs.Between.{none_go}
use Rattle.pol_sets.proofs.stretches.moved_numbers.Goals as goal

pub returns-then-is_empty : goal.returns-then-is_empty
returns-then-is_empty c =
    let none : length c.args.lost.now ≡ 0 = grind (arith, common_steps) in
    subst (λ xs. IfOk c.with_all.result (λ moved. moved.items ≡ union xs c.args.gained.now)) (sym (none_go c.args.numbers.now c.args.lost.now none)) c.with_all.ensures

pub with_all-requires-2-clause-numbers_ascend : goal.with_all-requires-2-clause-numbers_ascend
with_all-requires-2-clause-numbers_ascend c =
    subst (IsStrictlySortedBy nat_cmp) (sym (c.as_slice.ensures.value ∙ c.in_ok-kept.ensures)) (without-ascends c.args.numbers.now c.args.lost.now c.requires.numbers_ascend)
