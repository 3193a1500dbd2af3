-- When the ports of an entry cover a packet.
use Rattle.std.proofs.Common.{◌≡◌, ℕ, ◌==◌, ◌||◌, List, [], ◌∷◌, length, refl, sym, ap, arith}
use Rattle.std.proofs.lemmas.Bool.{ne_eqb}
use Rattle.std.specs.List.{list_any}
use Rattle.pol_ports.specs.declared.Proto.{Proto}
use Rattle.pol_rule.specs.Covers.{port_covers, ports_cover}
use Rattle.pol_rule.specs.declared.policy.PortSpec.{PortSpec}

pub any_or_empty : (proto : Proto) (port : ℕ) (ports : List PortSpec) → ports_cover proto port ports ≡ ((length ports == 0) || list_any (port_covers proto port) ports)
any_or_empty proto port [] = refl
any_or_empty proto port (spec ∷ specs) =
    sym (ap (λ b. b || list_any (port_covers proto port) (spec ∷ specs)) (ne_eqb (length (spec ∷ specs)) 0 (λ e. absurd (omega arith))))
