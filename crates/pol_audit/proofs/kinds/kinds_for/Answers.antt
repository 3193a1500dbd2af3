use Rattle.std.proofs.Common.{ap, length, ◌∙◌, arith}
use Rattle.std.proofs.lemmas.List.Sums.{count_by-le-length, length-filter}
use Rattle.pol_mapkey.specs.Entries.{Entry}
use Rattle.pol_mapkey.specs.KeyProto.{key_proto, proto_covers}
use Rattle.pol_audit.proofs.kinds.kinds_for.Goals as goal

pub returns-clause-cost : goal.returns-clause-cost
returns-clause-cost g c =
    let passes = λ (e : Entry). proto_covers e.0.proto (key_proto c.args.proto) in
    let those = ap length (c.deref.ensures.value ∙ c.in_ok-those.ensures) ∙ length-filter passes c.args.entries.now in
    let few = count_by-le-length passes c.args.entries.now in
    let cost = c.kinds_of.ensures.cost in
    omega arith
