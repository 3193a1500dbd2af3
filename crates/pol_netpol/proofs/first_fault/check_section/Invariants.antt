use Rattle.std.proofs.Common.{◌≡◌, drop}
use Rattle.pol_sanitize.specs.Faults.{first_from}
use Rattle.pol_netpol.specs.Faults.{entry_fault, section_fault}
use Rattle.pol_netpol.proofs.first_fault.check_section.Given as goal

-- nothing was found so far
abbrev pub invariant-loop-index : goal.invariant-loop-index
invariant-loop-index l = first_from (entry_fault l.section) l.index (drop l.index l.entries) ≡ section_fault l.section l.entries
