use Rattle.std.proofs.Common.{◌≡◌, ◌++◌}
use Rattle.pol_headings.proofs.filing.push_all.Given as goal

abbrev pub invariant-loop-number : goal.invariant-loop-number
invariant-loop-number l = l.numbers.items ++ l.number-iterator ≡ l.initial.numbers.items ++ l.filed.keys
