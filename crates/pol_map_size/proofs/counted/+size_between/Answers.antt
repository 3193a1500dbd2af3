use Rattle.std.proofs.Common.{◌≡◌, ◌<◌, ◌^◌, ◌-◌, ℕ, IfOk, List, rules, sym, subst, arith}
use Rattle.pol_sets.specs.declared.sets.SetRow.{SetRow}
use Rattle.pol_distill.specs.Sorted.{HaveSets}
use Rattle.pol_map_size.specs.Part.{IsBelow}
use Rattle.pol_map_size.proofs.Rows.{have_parts}
use Rattle.pol_map_size.proofs.Sizes.{room, room_high, room_low, same_size, two_sizes}
use Rattle.pol_map_size.proofs.counted.+size_between.Goals as goal

pub size_at_once-requires : goal.size_at_once-requires
size_at_once-requires t c = record {
  sets = have_parts c.args.from c.args.end c.args.rows.now c.in_ok-part.part c.in_ok-part.ensures c.args.filters.now c.requires.sets;
}

pub returns-then-light : goal.returns-then-light
returns-then-light t c = record {
  size = subst (λ (n : ℕ). IfOk c.size_at_once.result (λ size. size ≡ n))
      (same_size c.args.from c.args.end c.args.filters.now c.args.rows.now c.in_ok-part.part c.in_ok-part.ensures) c.size_at_once.ensures.size;
}

pub size_between-requires : goal.size_between-requires
size_between-requires t c =
    let above : c.args.from < c.middle-cut.result = search rules in
    let below : IsBelow c.middle-cut.result c.args.end = search rules in
    let small : c.middle-cut.result < 2 ^ 32 = omega arith in
    let low = room_low c.args.from c.middle-cut.result c.args.end above small below in
    let falls : c.middle-cut.result - c.args.from < t = omega (arith, low, c.decreases) in
    let have = have_parts c.args.from c.args.end c.args.rows.now c.in_ok-part.part c.in_ok-part.ensures c.args.filters.now c.requires.sets in
    (falls, subst (λ (rows : List SetRow). HaveSets rows c.args.filters.now) (sym c.as_slice-3.ensures.rows) have)

pub size_between-requires-2 : goal.size_between-requires-2
size_between-requires-2 t c =
    let above : c.args.from < c.middle-cut.result = search rules in
    let below : IsBelow c.middle-cut.result c.args.end = search rules in
    let small : c.middle-cut.result < 2 ^ 32 = omega arith in
    let high = room_high c.args.from c.middle-cut.result c.args.end above small below in
    let falls : room c.middle-cut.result c.args.end < t = omega (arith, high, c.decreases) in
    let have = have_parts c.args.from c.args.end c.args.rows.now c.in_ok-part.part c.in_ok-part.ensures c.args.filters.now c.requires.sets in
    (falls, subst (λ (rows : List SetRow). HaveSets rows c.args.filters.now) (sym c.as_slice-4.ensures.rows) have)

pub returns : goal.returns
returns t c =
    let above : c.args.from < c.middle-cut.result = search rules in
    let below : IsBelow c.middle-cut.result c.args.end = search rules in
    let both = two_sizes c.args.from c.middle-cut.result c.args.end c.args.filters.now c.args.rows.now c.in_ok-part.part c.as_slice-3.result.now
    c.as_slice-4.result.now c.in_ok-low.low c.in_ok-high.high above below c.in_ok-part.ensures c.as_slice-3.ensures.rows c.as_slice-4.ensures.rows
    c.in_ok-low.ensures.size c.in_ok-high.ensures.size in
    record { size = subst (λ (n : ℕ). IfOk c.sum.result (λ size. size ≡ n)) both c.sum.ensures }
