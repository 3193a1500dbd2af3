use Rattle.std.proofs.Common.{sym, ap, subst, ◌∙◌, ◌++◌, append-nil, map}
use Rattle.std.specs.BTreeMap.{IsOrdered}
use Rattle.pol_local_prefixes.proofs.Between.{same_order}
use Rattle.pol_local_prefixes.specs.Tied.{number_from}
use Rattle.pol_local_prefixes.proofs.Walk.{stops, walk_starts}
use Rattle.pol_local_prefixes.proofs.order.push_within.Goals as goal

pub loop-prefix-init : goal.loop-prefix-init
loop-prefix-init c =
    let range = c.range-prefix-items.ensures in
    let start = walk_starts c.args.first c.args.within.now c.args.order.now c.range-prefix-items.result (range.between tt) (range.in_range tt) range.ordered c.requires.fits in
    rw c.into_iter-prefix-iterator.ensures.into_iter_gives (tt, tt, start.0, ap (λ entries. c.args.numbers.now.items ++ map (number_from c.args.first) entries) start.1)

pub returns-then-not-covers-clause-pushed : goal.returns-then-not-covers-clause-pushed
returns-then-not-covers-clause-pushed c =
    let is = c.loop-prefix.invariant in
    let left = c.in-Some.ensures.steps in
    let none = stops c.args.first c.args.within.now (c.in-Some.prefix.now, c.in-Some.place.now) c.next.new.self c.covers.result (rw left at is.2) c.if-not-covers.true c.covers.ensures.value c.covers.ensures.containment in
    sym (append-nil c.loop-prefix.numbers.items) ∙ ap (λ entries. c.loop-prefix.numbers.items ++ map (number_from c.args.first) entries) (sym none) ∙ rw left at is.3

pub returns-in_err-push-clause-ascends : goal.returns-in_err-push-clause-ascends
returns-in_err-push-clause-ascends c = subst (λ cmp. IsOrdered cmp c.args.order.now) same_order c.range-prefix-items.ensures.ordered

pub returns-in-None-clause-ascends : goal.returns-in-None-clause-ascends
returns-in-None-clause-ascends c = subst (λ cmp. IsOrdered cmp c.args.order.now) same_order c.range-prefix-items.ensures.ordered

pub returns-then-not-covers-clause-ascends : goal.returns-then-not-covers-clause-ascends
returns-then-not-covers-clause-ascends c = subst (λ cmp. IsOrdered cmp c.args.order.now) same_order c.range-prefix-items.ensures.ordered
