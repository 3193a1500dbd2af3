use Rattle.std.proofs.Common.{◌≡◌, ◌++◌, drop}
use Rattle.proof_forms.specs.Walks.{Ascends, below}
use Rattle.proof_forms.proofs.walks.push_below.Given as goal

abbrev pub invariant-loop-number : goal.invariant-loop-number
invariant-loop-number l = record {
  ascends : Ascends (drop l.number-index l.numbers);
  kept : l.out.items ++ below l.limit (drop l.number-index l.numbers) ≡ l.initial.out.items ++ below l.limit l.numbers;
}
