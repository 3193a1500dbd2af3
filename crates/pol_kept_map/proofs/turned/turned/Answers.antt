use Rattle.pol_entry_changes.specs.Given.{raw_of}
use Rattle.pol_kept_map.proofs.Standing.{led_by, there, turned_kept, turned_list}
use Rattle.pol_kept_map.proofs.turned.turned.Goals as goal

pub change-requires-clause-there : goal.change-requires-clause-there
change-requires-clause-there c =
    let was = raw_of c.args.was.now c.args.was_rows.now in
    let is = raw_of c.args.is.now c.args.is_rows.now in
    there was is c.deref.result.now c.deref-2.result.now
    (led_by was is c.deref.result.now c.deref-2.result.now c.in_ok-moved.moved c.in_ok-moved.ensures c.deref.ensures.value c.deref-2.ensures.value)
    c.args.tally.now c.args.tally.now c.requires.kept.counts

pub returns-clause-kept : goal.returns-clause-kept
returns-clause-kept c =
    let was = raw_of c.args.was.now c.args.was_rows.now in
    let is = raw_of c.args.is.now c.args.is_rows.now in
    turned_kept c.args.was.now c.args.is.now c.args.was_rows.now c.args.is_rows.now c.deref.result.now c.deref-2.result.now c.args.size c.args.tally.now c.change.new.self
    (led_by was is c.deref.result.now c.deref-2.result.now c.in_ok-moved.moved c.in_ok-moved.ensures c.deref.ensures.value c.deref-2.ensures.value)
    c.requires.kept c.requires.sets c.change.ensures.order c.change.result c.change.ensures.counts c.change.ensures.size

pub returns-clause-list : goal.returns-clause-list
returns-clause-list c =
    let was = raw_of c.args.was.now c.args.was_rows.now in
    let is = raw_of c.args.is.now c.args.is_rows.now in
    turned_list c.args.was.now c.args.is.now c.args.was_rows.now c.args.is_rows.now c.deref.result.now c.deref-2.result.now c.args.size c.args.tally.now c.change.new.self
    (led_by was is c.deref.result.now c.deref-2.result.now c.in_ok-moved.moved c.in_ok-moved.ensures c.deref.ensures.value c.deref-2.ensures.value)
    c.requires.kept c.requires.sets c.change.ensures.order c.change.result c.change.ensures.counts c.change.ensures.list
