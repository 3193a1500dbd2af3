use Rattle.std.proofs.Common.{◌≡◌, ◌++◌, map, take}
use Rattle.pol_rule.specs.Listed.{section_peers}
use Rattle.pol_rule.proofs.listed.push_section.Given as goal

abbrev pub invariant-loop-entry : goal.invariant-loop-entry
invariant-loop-entry l = map (λ p. p.now) l.out.items ≡ map (λ p. p.now) l.initial.out.items ++ section_peers (take l.entry-index l.entries)
