-- What a rule's member says of default deny (Cilium, Network Policy, `enableDefaultDeny`).
use Rattle.std.specs.Prelude.{Bool, Option, None}
use Rattle.pol_ports.specs.declared.Direction.{Direction}
use Rattle.pol_ports.specs.declared.Direction.TheVariants.{Ingress, Egress}
use Rattle.pol_rule.specs.declared.policy.DefaultDeny.{DefaultDeny}

-- of neither direction anything
abbrev pub nothing_said : DefaultDeny
nothing_said = record { ingress = None; egress = None }

-- of a direction, where it says something of it
abbrev pub said_of : Direction → DefaultDeny → Option Bool
said_of Ingress member = member.ingress
said_of Egress member = member.egress
