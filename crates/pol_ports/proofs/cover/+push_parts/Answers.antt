-- Each case of a block is a lemma on its prefix.
use Rattle.std.proofs.Common.{◌≡◌, ◌-◌, List, ◌++◌, OnOk, inr, subst, append_assoc, arith}
use Rattle.std.proofs.lemmas.List.{append-nil}
use Rattle.pol_ports.specs.declared.PortPrefix.{PortPrefix}
use Rattle.pol_ports.specs.Split.{parts_within}
use Rattle.pol_ports.proofs.Steps.{parts_apart, parts_inside, parts_halved, half_own, two_halves}
use Rattle.pol_ports.proofs.cover.+push_parts.Goals as goal

pub returns-then-is_apart : goal.returns-then-is_apart
returns-then-is_apart t c =
    let none = parts_apart c.args.range c.args.block c.requires (cc) in rw (none, append-nil)

pub returns-then-lies_in : goal.returns-then-lies_in
returns-then-lies_in t c =
    let one = parts_inside c.args.range c.args.block c.requires (cc) in cc (one, c.in_ok-push.ensures.items)

pub push_parts-requires-2 : goal.push_parts-requires-2
push_parts-requires-2 t c =
    let long = two_halves c.args.range c.args.block c.requires (cc) (cc) in
    let own = half_own c.args.range c.args.block c.requires (cc) (cc) c.upper_half.result c.upper_half.ensures.len (inr c.upper_half.ensures.bits) in
    (omega arith, own)

pub returns : goal.returns
returns t c =
    let low = c.lower_half.result in
    let high = c.upper_half.result in
    let halved = parts_halved c.args.range c.args.block c.requires (cc) (cc) low high c.lower_half.ensures.len c.upper_half.ensures.len
    c.lower_half.ensures.bits c.upper_half.ensures.bits in
    let joined = append_assoc c.args.parts.now.items (parts_within c.args.range (16 - low.len) low.bits) (parts_within c.args.range (16 - high.len) high.bits) in
    let same : c.push_parts.new.parts.items ++ parts_within c.args.range (16 - high.len) high.bits
    ≡ c.args.parts.now.items ++ parts_within c.args.range (16 - c.args.block.len) c.args.block.bits = cc (halved, joined, c.in_ok-push_parts.ensures) in
    let P : List PortPrefix → Type 0 = λ xs. OnOk c.push_parts-2.result (c.push_parts-2.new.parts.items ≡ xs) in
    subst P same c.push_parts-2.ensures
