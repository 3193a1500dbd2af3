use Rattle.std.proofs.Common.{◌≡◌, ◌+◌, ◌++◌, List, [], ◌∷◌, take, sym, ap, ◌∙◌, subst}
use Rattle.std.specs.List.{flat_map}
use Rattle.std.proofs.lemmas.Grind.{flat_map-append}
use Rattle.std.proofs.lemmas.List.{append-nil, take_more}
use Rattle.pol_sets.specs.declared.sets.Move.{Move}
use Rattle.pol_sets.specs.declared.sets.SetRow.{SetRow}
use Rattle.pol_set_moves.specs.Moves.{move_since}
use Rattle.pol_set_moves.proofs.moves.moves_since.Goals as goal

pub loop-row-preserved : goal.loop-row-preserved
loop-row-preserved c =
    let all : List SetRow = c.as_slice-row-items.result.now in
    let i = c.loop-row.row-index in
    let row = c.row-item.result in
    let f : SetRow → List Move = λ r. move_since c.args.cache.now.log c.args.next c.args.revision r.selector in
    let first = take_more all i row c.loop-row-test.true ∙ ap (λ r. take i all ++ r ∷ []) (sym c.row-item.is) in
    let step : flat_map f (take (i + 1) all) ≡ flat_map f (take i all) ++ f row =
    ap (flat_map f) first ∙ flat_map-append f (take i all) (row ∷ []) ∙ ap (λ own. flat_map f (take i all) ++ own) (append-nil (f row)) in
    c.in_ok-push_move.ensures
    ∙ (λ k. c.loop-row.invariant k ++ f row)
    ∙ sym (subst (λ (rows : List SetRow). flat_map f (take (i + 1) rows) ≡ flat_map f (take i rows) ++ f row) c.as_slice-row-items.ensures.rows step)
