use Rattle.std.proofs.Common.{◌≡◌, ◌+◌, List, [], ◌∷◌, ◌++◌, None, Some, find, take, sym, ◌∙◌, ap, subst}
use Rattle.std.specs.Bool.{OnFalse}
use Rattle.std.specs.List.{AllByRecursion}
use Rattle.pol_data.proofs.Every.{every-append}
use Rattle.pol_sets.specs.Sets.{is_row_of}
use Rattle.pol_entry_changes.specs.PeerRow.{IsFirstRow, Lacks, placed_row}
use Rattle.pol_entry_changes.specs.declared.rows.PlacedRow.{PlacedRow}
use Rattle.pol_entry_changes.proofs.Moving.{IsCovered, covered_more, covered_own, first_own, found_peer, row_found, taken_more}
use Rattle.pol_entry_changes.proofs.moved_rows.rows_with.Goals as goal
use Rattle.pol_entry_changes.proofs.moved_rows.rows_with.Goals.{then-is_among+in-Some+in_ok-push-in-Some, else-is_among}

pub unreachable-requires : goal.unreachable-requires
unreachable-requires c =
    row_found c.args.rows.now c.row-item.result (c.loop-row.row-index, c.loop-row-test.true, sym c.row-item.is)
    (subst (λ p. find (is_row_of p) c.args.rows.now ≡ None) c.peer.ensures.peer (sym c.first_row.ensures ∙ ap placed_row c.in-None.is))

pub loop-row-preserved : goal.loop-row-preserved
loop-row-preserved c =
    let rows = c.args.rows.now in
    let selectors = c.args.selectors.now in
    let i = c.loop-row.row-index in
    let row = c.row-item.result in
    let found = c.loop-row.found.items in
    elim c.if-is_among.branch [
      | then-is_among+in-Some+in_ok-push-in-Some w ↦
          let one = w.in-Some.first in
          let is = subst (λ p. find (is_row_of p) rows ≡ Some one.row.now) w.peer.ensures.peer (sym w.first_row.ensures ∙ ap placed_row w.in-Some.is) in
          subst (λ (items : List PlacedRow). AllByRecursion (IsFirstRow rows) items × AllByRecursion (IsCovered selectors items) (take (i + 1) rows)) (sym w.in_ok-push-in-Some.ensures.items ∙ (λ j. (sym w.found-is j).items)) (
            every-append (IsFirstRow rows) found (one ∷ []) c.loop-row.invariant.0 (first_own rows row.peer one is, tt),
            taken_more (IsCovered selectors (found ++ one ∷ [])) rows i row c.loop-row-test.true c.row-item.is (covered_more selectors found one (take i rows) c.loop-row.invariant.1)
                (covered_own selectors found one row (found_peer rows row.peer one.row.now is)),
          )
      | else-is_among w ↦
          subst (λ (items : List PlacedRow). AllByRecursion (IsFirstRow rows) items × AllByRecursion (IsCovered selectors items) (take (i + 1) rows)) (λ j. (sym w.found-is j).items) (
            c.loop-row.invariant.0,
            taken_more (IsCovered selectors found) rows i row c.loop-row-test.true c.row-item.is c.loop-row.invariant.1
                (λ none. subst (λ b. OnFalse b (Lacks selectors row.selector)) w.if-is_among.false c.is_among.ensures),
          )
    ]
