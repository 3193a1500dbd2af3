use Rattle.std.proofs.Common.{◌≡◌, ◌++◌, drop}
use Rattle.pol_sanitize.specs.Faults.{entry_fault, first_from, section_fault}
use Rattle.pol_sanitize.specs.Sanitized.{section_of}
use Rattle.pol_sanitize.proofs.policy.section_of.Given as goal

abbrev pub invariant-loop-index : goal.invariant-loop-index
invariant-loop-index l = record {
  said : l.said.items ++ section_of l.key (drop l.index l.entries) ≡ section_of l.key l.entries;
  first : first_from (entry_fault l.rule l.section) l.index (drop l.index l.entries) ≡ section_fault l.rule l.section l.entries;
}
