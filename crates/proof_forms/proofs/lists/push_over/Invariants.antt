use Rattle.std.proofs.Common.{◌≡◌, ◌++◌, drop}
use Rattle.proof_forms.specs.Lists.{over}
use Rattle.proof_forms.proofs.lists.push_over.Given as goal

abbrev pub invariant-loop-number : goal.invariant-loop-number
invariant-loop-number l = l.out.items ++ over l.limit (drop l.number-index l.numbers) ≡ l.initial.out.items ++ over l.limit l.numbers
