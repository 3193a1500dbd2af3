use Rattle.std.proofs.Common.{refl, subst}
use Rattle.pol_entry_changes.specs.PeerRow.{IsMoveOf, RowsMoved}
use Rattle.pol_entry_changes.proofs.Moving.{moved_by}
use Rattle.pol_entry_changes.proofs.moved_rows.MovedRows.move_of.Goals as goal

pub returns-in-Some : goal.returns-in-Some
returns-in-Some c =
    moved_by c.args.self.now c.args.peer.now c.in-Some.found.row.now c.in-Some.ensures.found c.move_of.result
    (subst (λ (is : RowsMoved). IsMoveOf is.moves c.in-Some.found.row.now.selector c.move_of.result) c.self.view_is c.move_of.ensures)

pub returns-in-None : goal.returns-in-None
returns-in-None c = c.in-None.ensures.none refl
