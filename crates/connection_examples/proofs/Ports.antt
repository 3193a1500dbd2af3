-- All ports are one range, where the same is told of each.
use Rattle.std.proofs.Common.{◌≡◌, [], refl, ap, ◌∙◌, arith}
use Rattle.pol_port_ranges.specs.declared.said.PortSaid.{PortSaid}
use Rattle.pol_port_ranges.specs.Ranges.{all_ports, in_front, ranges_from}
use Rattle.pol_port_ranges.proofs.Front.{from_none, stretch}

pub one_range : (said : PortSaid) → ranges_from all_ports 0 (λ port. said) ≡ in_front 0 65535 said []
one_range said =
    stretch (λ port. said) 65536 0 65535 0 (omega arith) (λ q low high. refl)
    ∙ ap (in_front 0 65535 said) (from_none (λ port. said) 65536)
