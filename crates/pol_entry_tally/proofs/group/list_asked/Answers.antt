use Rattle.std.proofs.Common.{◌<◌, ◌^◌, ◌++◌, ◌+◌, ◌≡◌, sym, ◌∙◌, ap, subst}
use Rattle.std.specs.List.{AllByRecursion}
use Rattle.pol_entry_tally.specs.Affected.{changes_in}
use Rattle.pol_entry_tally.specs.Counts.{held}
use Rattle.pol_entry_tally.specs.Sizes.{clear_count, new_count}
use Rattle.pol_entry_tally.proofs.Turned.{asked_go_on, asked_small}
use Rattle.pol_entry_tally.proofs.group.list_asked.Goals as goal

pub list_keys-requires-clause-asked : goal.list_keys-requires-clause-asked
list_keys-requires-clause-asked c =
    subst (AllByRecursion (λ n. n < 2 ^ 23)) (sym c.deref.ensures.value) (asked_small c.args.old.now c.args.turns.now _ c.requires.old c.requires.turns c.in_ok-asked.ensures.no_more)

pub returns : goal.returns
returns c = λ before after was is.
    let old = held c.args.old.now in
    let new = held c.args.new.now in
    let list = c.args.listing.now in
    let made = c.list_keys.new.listing in
    asked_go_on c.args.group c.requires.group c.args.old.now c.args.new.now c.requires.old c.args.turns.now c.requires.turns c.requires.times before after was is
    c.in_ok-asked.asked.items c.in_ok-asked.ensures.ascends c.in_ok-asked.ensures.turned c.in_ok-asked.ensures.under c.in_ok-asked.ensures.no_more
    list.changes.items made.changes.items list.size made.size
    (c.in_ok-list_keys.ensures.made ∙ ap (λ ns. list.changes.items ++ changes_in c.args.group old new ns) c.deref.ensures.value)
    (subst (λ ns. made.size + clear_count (changes_in c.args.group old new ns) ≡ list.size + new_count old (changes_in c.args.group old new ns)) c.deref.ensures.value c.in_ok-list_keys.ensures.size)
