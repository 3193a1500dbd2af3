use Rattle.std.proofs.Common.{◌≡◌, drop}
use Rattle.proof_forms.specs.Lists.{greatest}
use Rattle.proof_forms.proofs.lists.greatest.Given as goal

abbrev pub invariant-loop-i : goal.invariant-loop-i
invariant-loop-i l = l.so_far ≡ greatest (drop l.i l.numbers)
