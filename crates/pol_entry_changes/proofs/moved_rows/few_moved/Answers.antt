use Rattle.std.proofs.Common.{ℕ, List, subst, IfSome}
use Rattle.std.specs.List.{AllByRecursion}
use Rattle.pol_entry_changes.specs.PeerRow.{HaveNoRow, Lacks, NamesMove}
use Rattle.pol_entry_changes.proofs.Moving.{have_moved}
use Rattle.pol_entry_changes.proofs.moved_rows.few_moved.Goals as goal

pub returns : goal.returns
returns c =
    have_moved c.args.rows.now c.args.moves.now c.in-Some.selectors.items c.in_ok-few.few.items
    (subst (λ o. IfSome o (λ few. AllByRecursion (NamesMove few.items) c.args.moves.now)) c.in-Some.is c.in_ok-selectors.ensures)
    c.in_ok-few.ensures.first
    (subst (λ (selectors : List ℕ). AllByRecursion (λ row. HaveNoRow c.in_ok-few.few.items row.peer → Lacks selectors row.selector) c.args.rows.now) c.as_slice.ensures.value c.in_ok-few.ensures.every)
