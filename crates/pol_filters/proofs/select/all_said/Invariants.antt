use Rattle.std.proofs.Common.{take}
use Rattle.pol_ports.specs.declared.Direction.TheVariants.{Ingress, Egress}
use Rattle.pol_filters.specs.Said.{IsSaid}
use Rattle.pol_filters.proofs.select.all_said.Given as goal

-- what the policies so far say
abbrev pub invariant-loop-stamped : goal.invariant-loop-stamped
invariant-loop-stamped l = IsSaid (take l.stamped-index l.policies) l.labels Ingress l.ingress × IsSaid (take l.stamped-index l.policies) l.labels Egress l.egress
