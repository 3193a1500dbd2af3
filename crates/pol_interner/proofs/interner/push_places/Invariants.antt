use Rattle.std.proofs.Common.{◌≡◌, ◌+◌, ◌++◌, drop}
use Rattle.pol_interner.specs.Slots.{numbers_from}
use Rattle.pol_interner.proofs.interner.push_places.Given as goal

abbrev pub invariant-loop-index : goal.invariant-loop-index
invariant-loop-index l = l.numbers.items ++ numbers_from (l.first + l.index) (drop l.index l.slots) ≡ l.initial.numbers.items ++ numbers_from l.first l.slots
