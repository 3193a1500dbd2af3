use Rattle.std.proofs.Common.{◌≡◌, ◌++◌, map, take}
use Rattle.std.specs.List.{flat_map}
use Rattle.pol_rule.specs.Listed.{rule_peers}
use Rattle.pol_rule.proofs.listed.push_rules.Given as goal

abbrev pub invariant-loop-rule : goal.invariant-loop-rule
invariant-loop-rule l = map (λ p. p.now) l.out.items ≡ map (λ p. p.now) l.initial.out.items ++ flat_map rule_peers (take l.rule-index l.rules)
