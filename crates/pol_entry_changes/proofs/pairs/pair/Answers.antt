use Rattle.std.proofs.Common.{sym, subst}
use Rattle.pol_sets.specs.Sets.{set_given}
use Rattle.pol_filters.specs.declared.filter.Filter.{Filter}
use Rattle.pol_entry_changes.specs.Balance.{GoesOn}
use Rattle.pol_entry_changes.specs.Given.{given_by}
use Rattle.pol_entry_changes.specs.Told.{PeersTold}
use Rattle.pol_entry_changes.proofs.SideBySide.{pair_stays}
use Rattle.pol_entry_changes.proofs.pairs.pair.Goals as goal

pub stays-requires-clause-told : goal.stays-requires-clause-told
stays-requires-clause-told c =
    let other = c.index-others-from.result in
    let one = c.requires.stays other (c.args.from, c.if-from-others.true, sym c.index-others-from.is) (c.stands_at.ensures c.if-stands_at.true) in
    subst (λ (f : Filter). PeersTold c.args.was.now c.args.is.now.rows c.args.is.now.moves f.peers) (sym one.0) one.1

pub returns-in_ok-stays-clause-left : goal.returns-in_ok-stays-clause-left
returns-in_ok-stays-clause-left c =
    let other = c.index-others-from.result in
    let one = c.requires.stays other (c.args.from, c.if-from-others.true, sym c.index-others-from.is) (c.stands_at.ensures c.if-stands_at.true) in
    let was = given_by (set_given c.args.was.now) c.args.dir in
    let is = given_by (set_given c.args.is.now.rows) c.args.dir in
    pair_stays is c.args.others.now c.args.from (was c.args.one.now) other c.args.out.now c.stays.new.out c.if-from-others.true (sym c.index-others-from.is)
    (subst (λ (f : Filter). GoesOn (was c.args.one.now) (is f) c.args.out.now c.stays.new.out) one.0 c.in_ok-stays.ensures)
