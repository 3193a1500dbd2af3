use Rattle.std.proofs.Common.{◌≡◌, ◌||◌, drop}
use Rattle.std.specs.List.{list_any}
use Rattle.proof_forms.specs.Lists.{is_over}
use Rattle.proof_forms.proofs.lists.has_over.Given as goal

abbrev pub invariant-loop-number : goal.invariant-loop-number
invariant-loop-number l = record {
  flag : (l.found || list_any (is_over l.limit) (drop l.number-index l.numbers)) ≡ list_any (is_over l.limit) l.numbers;
  passed : list_any (is_over l.most) (drop l.number-index l.numbers) ≡ list_any (is_over l.most) l.numbers;
}
