use Rattle.std.proofs.Common.{◌≡◌, ◌++◌, take, map}
use Rattle.pol_mapkey.specs.Entries.{Entry}
use Rattle.pol_audit.proofs.numbers.push_numbers.Given as goal

abbrev pub invariant-loop-entry : goal.invariant-loop-entry
invariant-loop-entry l = l.numbers.items ≡ l.initial.numbers.items ++ map (λ (e : Entry). e.0.id) (take l.entry-index l.entries)
