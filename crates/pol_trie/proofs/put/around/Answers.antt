use Rattle.std.proofs.Common.{◌<◌, ◌^◌, refl, arith}
use Rattle.pol_ports.specs.declared.PortPrefix.{PortPrefix}
use Rattle.pol_ports.proofs.Containing.{contains_from}
use Rattle.pol_trie.proofs.Prefixes.{ends_by}
use Rattle.pol_trie.proofs.put.around.Goals as goal

pub returns-clause-a : goal.returns-clause-a
returns-clause-a c =
    let all : PortPrefix = record { bits = 0; len = 0; short = omega arith; clear = refl } in
    let below : c.args.a.now.bits < 2 ^ 16 = omega (arith, c.first_port.ensures, c.first_port.type_inv) in
    contains_from all c.args.a.now (omega arith) (ends_by c.args.a.now below)

pub returns-clause-b : goal.returns-clause-b
returns-clause-b c =
    let all : PortPrefix = record { bits = 0; len = 0; short = omega arith; clear = refl } in
    let below : c.args.b.now.bits < 2 ^ 16 = omega (arith, c.first_port-2.ensures, c.first_port-2.type_inv) in
    contains_from all c.args.b.now (omega arith) (ends_by c.args.b.now below)
