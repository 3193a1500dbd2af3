use Rattle.std.proofs.Common.{◌≡◌, ◌++◌, drop}
use Rattle.pol_rule.specs.Covers.{entry_covers}
use Rattle.pol_model.specs.Enforced.{rule_selects}
use Rattle.pol_model.specs.Explain.{rule_places}
use Rattle.pol_model.specs.Selects.{selects_number}
use Rattle.pol_judge.proofs.places.push_policy.Given as goal

-- what is appended so far and what is left are the places of all
abbrev pub invariant-loop-i : goal.invariant-loop-i
invariant-loop-i l =
    let passes = entry_covers (selects_number l.identities l.number) l.query.proto l.query.port in
    l.out.items ++ rule_places (rule_selects l.endpoint) passes l.policy.key l.section l.i (drop l.i l.policy.rules) ≡ l.initial.out.items ++ rule_places (rule_selects l.endpoint) passes l.policy.key l.section 0 l.policy.rules
