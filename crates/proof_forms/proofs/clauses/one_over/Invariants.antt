use Rattle.std.proofs.Common.{◌≡◌, drop}
use Rattle.std.specs.List.{list_any}
use Rattle.proof_forms.specs.Lists.{is_over}
use Rattle.proof_forms.proofs.clauses.one_over.Given as goal

abbrev pub invariant-loop-number : goal.invariant-loop-number
invariant-loop-number l = list_any (is_over l.limit) (drop l.number-index l.numbers) ≡ list_any (is_over l.limit) l.numbers
