use Rattle.std.proofs.Common.{sym, subst, ◌∙◌, arith}
use Rattle.pol_model.specs.PolicyMap.{canonical}
use Rattle.pol_map_changes.specs.Changes.{IsDifference, table_of}
use Rattle.pol_entry_tally.specs.Counted.{IsTurnedTo, times_after, times_of}
use Rattle.pol_entry_tally.proofs.Sized.{listed_size}
use Rattle.pol_entry_tally.proofs.Whole.{after_is, after_out, counts_now, listed_is, lists_all, lists_ascend, of_out, sized_all}
use Rattle.pol_entry_tally.proofs.tally.Tally.change.Goals as goal

pub from_vec-requires : goal.from_vec-requires
from_vec-requires c =
    let old = c.args.self.now in
    let turns = c.deref.result.now in
    record {
      ascending = lists_ascend (times_of old) (times_after old turns) c.turn_all.new.listing.changes.items
          (lists_all (times_of old) (times_after old turns) c.in_ok-listing.listing.changes.items c.turn_all.new.listing.changes.items c.in_ok-listing.listing.size c.turn_all.new.listing.size
          c.in_ok-listing.ensures.changes (of_out old) (after_out old turns) c.in_ok-turn_all.ensures.listed);
    }

pub returns-clause-counts : goal.returns-clause-counts
returns-clause-counts c =
    let moved = subst (λ ts. IsTurnedTo c.args.self.now ts c.turn_all.new.tally) c.deref.ensures.value c.in_ok-turn_all.ensures.ok in
    counts_now c.args.self.now c.turn_all.new.tally c.in_ok-turns.turns.items c.args.come.now c.args.gone.now moved c.in_ok-turns.ensures.come c.in_ok-turns.ensures.gone
    c.in_ok-turns.ensures.fit_come c.in_ok-turns.ensures.fit_gone c.requires.there

pub returns-clause-list : goal.returns-clause-list
returns-clause-list c = λ was is small small_after tally_was tally_is.
    let old = c.args.self.now in
    let turns = c.deref.result.now in
    let changes = c.turn_all.new.listing.changes.items in
    let lists = lists_all (times_of old) (times_after old turns) c.in_ok-listing.listing.changes.items changes c.in_ok-listing.listing.size c.turn_all.new.listing.size
    c.in_ok-listing.ensures.changes (of_out old) (after_out old turns) c.in_ok-turn_all.ensures.listed in
    subst (λ list. IsDifference list (table_of (canonical was)) (table_of (canonical is))) (sym c.from_vec.ensures)
    (listed_is (times_of old) (times_after old turns) changes was is tally_was.counts
    (λ q k. after_is old c.turn_all.new.tally turns c.in_ok-turn_all.ensures.ok q k ∙ tally_is.counts q k) small small_after lists)

pub returns-clause-size : goal.returns-clause-size
returns-clause-size c = λ was is small small_after tally_was tally_is sized.
    let old = c.args.self.now in
    let turns = c.deref.result.now in
    let changes = c.turn_all.new.listing.changes.items in
    let lists = lists_all (times_of old) (times_after old turns) c.in_ok-listing.listing.changes.items changes c.in_ok-listing.listing.size c.turn_all.new.listing.size
    c.in_ok-listing.ensures.changes (of_out old) (after_out old turns) c.in_ok-turn_all.ensures.listed in
    let grew = listed_size (times_of old) (times_after old turns) changes was is tally_was.counts
    (λ q k. after_is old c.turn_all.new.tally turns c.in_ok-turn_all.ensures.ok q k ∙ tally_is.counts q k) small small_after lists in
    let told = sized_all (times_of old) (times_after old turns) c.in_ok-listing.listing.changes.items changes c.in_ok-listing.listing.size c.turn_all.new.listing.size
    c.in_ok-listing.ensures.changes c.in_ok-turn_all.ensures.listed in
    omega (arith, grew, told, sized, c.in_ok-listing.ensures.size)
