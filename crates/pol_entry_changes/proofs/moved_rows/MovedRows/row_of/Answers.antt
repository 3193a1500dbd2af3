use Rattle.std.proofs.Common.{IfSome, subst}
use Rattle.pol_entry_changes.specs.PeerRow.{HaveMoved, HaveNoRow, IsUnmoved}
use Rattle.pol_entry_changes.proofs.moved_rows.MovedRows.row_of.Goals as goal

pub returns-in-Some-clause-none : goal.returns-in-Some-clause-none
returns-in-Some-clause-none c = λ none.
    let p = c.args.peer.now in
    let have = subst (λ o. IfSome o (λ few. HaveMoved (record { rows = c.self.inside.rows; moves = c.self.inside.moves.now }) few.items)) c.in-Some.is c.self.invariant in
    subst (λ is. IsUnmoved is p) c.self.view_is (have.others p (subst (λ few. HaveNoRow few p) c.as_slice.ensures.value (c.row_among.ensures.none none)))
