use Rattle.std.proofs.Common.{◌≡◌, ◌++◌, drop}
use Rattle.pol_filters.specs.Resolved.{entry_filters, filter_at}
use Rattle.pol_filters.proofs.select.push_entries.Given as goal

-- what is appended so far and what is left are the filters of all
abbrev pub invariant-loop-i : goal.invariant-loop-i
invariant-loop-i l =
    let made = filter_at l.stamped l.rule l.section in
    l.out.items ++ entry_filters made l.i (drop l.i l.entries) ≡ l.initial.out.items ++ entry_filters made 0 l.entries
