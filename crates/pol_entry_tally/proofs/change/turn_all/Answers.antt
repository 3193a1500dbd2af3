use Rattle.std.proofs.Common.{◌≡◌, length, sym, ◌∙◌, ap, subst, arith}
use Rattle.std.specs.Option.{option_copied}
use Rattle.std.proofs.lemmas.Grind.{common_steps}
use Rattle.pol_entry_tally.specs.Affected.{GoesOn}
use Rattle.pol_entry_tally.specs.Counted.{times_after, times_of}
use Rattle.pol_entry_tally.proofs.Merged.{none_left}
use Rattle.pol_entry_tally.proofs.Ranges.{none_goes_on, ok_map, one_goes_on}
use Rattle.pol_entry_tally.proofs.Several.{all_of_one, group_small}
use Rattle.pol_entry_tally.proofs.change.turn_all.Goals as goal

pub turn_one-requires-clause-own : goal.turn_one-requires-clause-own
turn_one-requires-clause-own c =
    let none : length c.below.result.1.now ≡ 0 = grind (arith, common_steps) in
    all_of_one c.args.turns.now c.below.result.0.now c.below.result.1.now c.in-Some.turn.now (sym c.first.ensures.value ∙ ap option_copied c.in-Some.is) c.requires.rises
    c.below.ensures.parts c.below.ensures.low none

pub returns-in-None-clause-listed : goal.returns-in-None-clause-listed
returns-in-None-clause-listed c =
    let old = c.args.tally.now in
    let list = c.args.listing.now in
    subst (λ ts. GoesOn (times_of old) (times_after old ts) 0 72057594037927936 list.changes.items list.changes.items list.size list.size)
    (sym (none_left c.args.turns.now (sym c.first.ensures.value ∙ ap option_copied c.in-None.is))) (none_goes_on old list.changes.items list.size)

pub returns-then-is_empty-clause-listed : goal.returns-then-is_empty-clause-listed
returns-then-is_empty-clause-listed c =
    let none : length c.below.result.1.now ≡ 0 = grind (arith, common_steps) in
    let first = sym c.first.ensures.value ∙ ap option_copied c.in-Some.is in
    ok_map c.turn_one.result c.turn_one.ensures.listed (λ goes.
    one_goes_on c.args.tally.now c.args.turns.now _ c.args.listing.now.changes.items c.turn_one.new.listing.changes.items c.args.listing.now.size c.turn_one.new.listing.size
    (group_small c.args.turns.now c.in-Some.turn.now first c.requires.turns)
    (all_of_one c.args.turns.now c.below.result.0.now c.below.result.1.now c.in-Some.turn.now first c.requires.rises c.below.ensures.parts c.below.ensures.low none) goes)
