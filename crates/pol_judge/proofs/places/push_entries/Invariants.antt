use Rattle.std.proofs.Common.{◌≡◌, ◌++◌, drop}
use Rattle.pol_rule.specs.Covers.{entry_covers}
use Rattle.pol_model.specs.Explain.{entry_places}
use Rattle.pol_model.specs.Selects.{selects_number}
use Rattle.pol_judge.proofs.places.push_entries.Given as goal

-- what is appended so far and what is left are the places of all
abbrev pub invariant-loop-i : goal.invariant-loop-i
invariant-loop-i l =
    let passes = entry_covers (selects_number l.identities l.number) l.query.proto l.query.port in
    l.out.items ++ entry_places passes l.key l.rule l.section l.i (drop l.i l.entries) ≡ l.initial.out.items ++ entry_places passes l.key l.rule l.section 0 l.entries
