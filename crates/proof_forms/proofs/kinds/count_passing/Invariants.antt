use Rattle.std.proofs.Common.{◌≡◌, ◌≤◌, count_by, take}
use Rattle.proof_forms.proofs.kinds.count_passing.Given as goal

abbrev pub invariant-loop-number : goal.invariant-loop-number
invariant-loop-number g l = record {
  counted : l.count ≡ count_by (g.T.NumberTest.says l.test) (take l.number-index l.numbers);
  few : l.count ≤ l.number-index;
}
