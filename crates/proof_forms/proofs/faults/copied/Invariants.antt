use Rattle.std.proofs.Common.{◌≡◌, drop, take}
use Rattle.proof_forms.specs.Faults.{first_fault}
use Rattle.proof_forms.proofs.faults.copied.Given as goal

abbrev pub invariant-loop-number : goal.invariant-loop-number
invariant-loop-number l = record {
  found : first_fault l.limit l.numbers ≡ first_fault l.limit (drop l.number-index l.numbers);
  made : l.copy.items ≡ take l.number-index l.numbers;
}
