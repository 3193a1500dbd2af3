use Rattle.std.proofs.Common.{◌+◌, true, false, nat_le, refl, sym, ◌∙◌, arith}
use Rattle.std.proofs.lemmas.Bool.{and_parts, leb-true}
use Rattle.pol_trie.specs.Tree.{middle}
use Rattle.pol_ports.specs.declared.PortPrefix.{PortPrefix}
use Rattle.pol_trie.proofs.Prefixes.{half_clear, short_around, low_around, high_around, parts_here}
use Rattle.pol_trie.proofs.put.+common.Goals as goal

pub invariant_of-low : goal.invariant_of-low
invariant_of-low t c =
    let r = c.requires in
    let short = short_around c.args.port c.args.a.now c.args.b.now r.around_a r.around_b r.not_a in
    record { short = omega arith; clear = half_clear c.args.port false short }

pub common-requires : goal.common-requires
common-requires t c =
    let r = c.requires in
    let short = short_around c.args.port c.args.a.now c.args.b.now r.around_a r.around_b r.not_a in
    let low : PortPrefix = record { bits = c.args.port.bits; len = c.args.port.len + 1; short = omega arith; clear = half_clear c.args.port false short } in
    let both = low_around c.args.port c.args.a.now c.args.b.now short r.around_a (sym c.both_low.ensures ∙ c.if-both_low.true) low refl refl r.around_b in
    (omega (arith, short, c.decreases), (both.0, (both.1, (r.not_a, r.not_b))))

pub invariant_of-high : goal.invariant_of-high
invariant_of-high t c =
    let r = c.requires in
    let short = short_around c.args.port c.args.a.now c.args.b.now r.around_a r.around_b r.not_a in
    record { short = omega arith; clear = rw c.middle.ensures (half_clear c.args.port true short) }

pub common-requires-then-both_high : goal.common-requires-then-both_high
common-requires-then-both_high t c =
    let r = c.requires in
    let short = short_around c.args.port c.args.a.now c.args.b.now r.around_a r.around_b r.not_a in
    let high : PortPrefix = record { bits = c.middle.result; len = c.args.port.len + 1; short = omega arith; clear = rw c.middle.ensures (half_clear c.args.port true short) } in
    let both = high_around c.args.port c.args.a.now c.args.b.now short r.around_a (sym c.both_high.ensures ∙ c.if-both_high.true) high c.middle.ensures refl r.around_b in
    (omega (arith, short, c.decreases), (both.0, (both.1, (r.not_a, r.not_b))))

pub returns : goal.returns
returns t c =
    let r = c.requires in
    parts_here c.args.port c.args.a.now c.args.b.now r.around_a r.around_b r.not_a r.not_b (sym c.both_low.ensures ∙ c.if-both_low.false) (sym c.both_high.ensures ∙ c.if-both_high.false)

pub overflow_cast-high : goal.overflow_cast-high
overflow_cast-high t c =
    let both = and_parts (nat_le (middle c.args.port) c.args.a.now.bits) (nat_le (middle c.args.port) c.args.b.now.bits) (sym c.both_high.ensures ∙ c.if-both_high.true) in
    omega (arith, leb-true (middle c.args.port) c.args.a.now.bits both.0, c.middle.ensures, c.first_port.ensures, c.first_port.type_inv)
