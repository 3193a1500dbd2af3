-- The sort is by a function that compares by name, then revision.
use Rattle.std.proofs.Common.{rules, sym, subst}
use Rattle.std.proofs.lemmas.List.Sorted.{answers_always}
use Rattle.pol_model.proofs.RowOrder.{comes_before, rows_ascend, rows_ranked}
use Rattle.pol_model.proofs.full_rows.in_row_order.Goals as goal
use Rattle.pol_model.specs.FullRows.{FullRowsAscend}

pub returns-clause-sorted : goal.returns-clause-sorted
returns-clause-sorted c =
    let sorted = c.in_ok-sort_by.ensures.sorted comes_before rows_ranked (answers_always _ _ _ (λ f a r next called. search rules)) in
    subst FullRowsAscend (sym c.from_vec.ensures) (rows_ascend c.sort_by.new.self.items sorted)
