use Rattle.std.proofs.Common.{◌≡◌, ◌<◌, ◌^◌}
use Rattle.pol_ports.specs.declared.PortPrefix.{PortPrefix}
use Rattle.pol_mapkey.specs.declared.Kind.{Kind}
use Rattle.pol_audit.specs.Text.{kind_word, port_text}
use Rattle.pol_audit.proofs.Results.{if_none}
use Rattle.pol_audit.proofs.line.ports_then_kind.Goals as goal

pub returns-in_err-port_of-clause-none : goal.returns-in_err-port_of-clause-none
returns-in_err-port_of-clause-none c =
    let none : (p : PortPrefix) (k : Kind) → p.bits < 2 ^ 16 → c.args.port.now ≡ port_text p → c.args.kind.now ≡ kind_word k → ⊥ =
    λ p k small port kind. c.in_err-port_of.ensures.none p small port in
    if_none _ _ none

pub returns-in_err-kind_of-clause-none : goal.returns-in_err-kind_of-clause-none
returns-in_err-kind_of-clause-none c =
    let none : (p : PortPrefix) (k : Kind) → p.bits < 2 ^ 16 → c.args.port.now ≡ port_text p → c.args.kind.now ≡ kind_word k → ⊥ =
    λ p k small port kind. c.in_err-kind_of.ensures.none k kind in
    if_none _ _ none
