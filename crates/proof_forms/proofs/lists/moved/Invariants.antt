use Rattle.std.proofs.Common.{◌≡◌, ◌++◌}
use Rattle.std.specs.Vec.Iter.{into_iter_items}
use Rattle.proof_forms.proofs.lists.moved.Given as goal

abbrev pub invariant-loop-number : goal.invariant-loop-number
invariant-loop-number l =
    (goal.iterator-loop-number).can_next l.number-iterator
    × (l.out.items ++ into_iter_items l.number-iterator ≡ l.initial.out.items ++ l.fn.numbers.items)
