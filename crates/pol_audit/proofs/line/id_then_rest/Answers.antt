use Rattle.std.proofs.Common.{◌≡◌, ◌<◌, ◌^◌, ℕ, decimal}
use Rattle.pol_ports.specs.declared.PortPrefix.{PortPrefix}
use Rattle.pol_mapkey.specs.declared.KeyProto.{KeyProto}
use Rattle.pol_mapkey.specs.declared.Kind.{Kind}
use Rattle.pol_audit.specs.Text.{kind_word, port_text, proto_word, spaced}
use Rattle.pol_audit.proofs.Results.{if_none}
use Rattle.pol_audit.proofs.line.id_then_rest.Goals as goal

pub returns-in_err-id-clause-none : goal.returns-in_err-id-clause-none
returns-in_err-id-clause-none c =
    let none : (n : ℕ) (proto : KeyProto) (port : PortPrefix) (kind : Kind) → n < 2 ^ 32 → port.bits < 2 ^ 16 → c.args.id.now ≡ decimal n
    → c.args.rest.now ≡ spaced (proto_word proto) (spaced (port_text port) (kind_word kind)) → ⊥ =
    λ n proto port kind low small id rest. c.in_err-id.ensures.none n low id in
    if_none _ _ none

pub returns-in_err-proto-clause-none : goal.returns-in_err-proto-clause-none
returns-in_err-proto-clause-none c =
    let none : (n : ℕ) (proto : KeyProto) (port : PortPrefix) (kind : Kind) → n < 2 ^ 32 → port.bits < 2 ^ 16 → c.args.id.now ≡ decimal n
    → c.args.rest.now ≡ spaced (proto_word proto) (spaced (port_text port) (kind_word kind)) → ⊥ =
    λ n proto port kind low small id rest. c.in_err-proto.ensures.none proto port kind small rest in
    if_none _ _ none
