use Rattle.std.proofs.Common.{◌≡◌, ◌++◌, ◌+◌, ◌*◌, map, take, true}
use Rattle.std.specs.List.{AllByRecursion}
use Rattle.pol_mapkey.specs.Entries.{Entry}
use Rattle.pol_entry_tally.specs.Numbers.{code_of, fits}
use Rattle.pol_entry_tally.proofs.turns.push_turns.Given as goal

-- the numbers of the entries so far stand behind the others
abbrev pub invariant-loop-entry : goal.invariant-loop-entry
invariant-loop-entry l =
    (l.out.items ≡ l.initial.out.items ++ map (λ (e : Entry). code_of e.0 e.1 * 2 + l.goes) (take l.entry-index l.entries))
    × AllByRecursion (λ (e : Entry). fits e.0 ≡ true) (take l.entry-index l.entries)
