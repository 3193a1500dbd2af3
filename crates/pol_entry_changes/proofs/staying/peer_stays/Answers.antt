use Rattle.std.proofs.Common.{sym, ◌∙◌, subst}
use Rattle.pol_model.specs.PolicyMap.{ports_keys}
use Rattle.pol_sets.specs.Sets.{set_given}
use Rattle.pol_distill.specs.RawKeys.{entries_for}
use Rattle.pol_entry_changes.specs.Given.{kind_of}
use Rattle.pol_entry_changes.specs.PeerRow.{IsMoveFor}
use Rattle.pol_entry_changes.proofs.FirstRow.{given_ascends, move_found}
use Rattle.pol_entry_changes.proofs.PeerStays.{own_stays, still_stays}
use Rattle.pol_entry_changes.proofs.staying.peer_stays.Goals as goal

pub returns-in-None : goal.returns-in-None
returns-in-None c =
    let was = c.args.was.now in
    let is = c.args.is.now in
    let p = c.args.peer.now in
    let told = c.requires.told in
    still_stays (entries_for (kind_of c.args.one.now) (ports_keys c.args.dir 0 c.args.one.now.ports)) (set_given was) (set_given is.rows) p
    (sym c.selects_every_number.ensures ∙ c.if-selects_every_number.false)
    (given_ascends was c.requires.before p) (given_ascends is.rows c.requires.after p)
    told.move (told.exact told.move told.there told.own)
    (subst (IsMoveFor is p) c.in-None.is c.move_of.ensures told.row told.first told.move told.there told.own) c.args.out.now

pub returns-in-Some : goal.returns-in-Some
returns-in-Some c =
    let was = c.args.was.now in
    let is = c.args.is.now in
    let p = c.args.peer.now in
    own_stays (entries_for (kind_of c.args.one.now) (ports_keys c.args.dir 0 c.args.one.now.ports)) (set_given was) (set_given is.rows) p
    (sym c.selects_every_number.ensures ∙ c.if-selects_every_number.false)
    (given_ascends was c.requires.before p) (given_ascends is.rows c.requires.after p)
    c.in-Some.change.now
    (move_found was is.rows is.moves p c.requires.told c.in-Some.change (subst (IsMoveFor is p) c.in-Some.is c.move_of.ensures))
    c.args.out.now c.push_move.new.out c.push_move.result c.push_move.ensures.come c.push_move.ensures.gone
