use Rattle.std.proofs.Common.{◌≡◌, ◌++◌, map, take}
use Rattle.proof_forms.specs.Lists.{doubled}
use Rattle.proof_forms.proofs.lists.push_doubled.Given as goal

abbrev pub invariant-loop-number : goal.invariant-loop-number
invariant-loop-number l = l.out.items ≡ l.initial.out.items ++ map doubled (take l.number-index l.numbers)
