use Rattle.std.proofs.Common.{◌≡◌, ◌<◌, ◌+◌, ◌++◌, [], ◌∷◌, List, length, take, sym, ap, subst, ◌∙◌, arith}
use Rattle.std.proofs.lemmas.List.{take_more}
use Rattle.pol_sets.specs.declared.sets.SetRow.{SetRow}
use Rattle.pol_map_size.specs.Part.{ArePartsOf}
use Rattle.pol_map_size.proofs.Rows.{more_rows}
use Rattle.pol_map_size.proofs.part.rows_between.Goals as goal

pub loop-row-preserved : goal.loop-row-preserved
loop-row-preserved c =
    let rows = c.args.rows.now in
    let i = c.loop-row.row-index in
    let row = c.row-item.result in
    let within : i < length rows = omega arith in
    let split : take (i + 1) rows ≡ take i rows ++ row ∷ [] = take_more rows i row within ∙ ap (λ q. take i rows ++ q ∷ []) (sym c.row-item.is) in
    let more = more_rows c.args.from c.args.end (take i rows) c.loop-row.parts.items row c.in_ok-row_between.field-0 c.loop-row.invariant c.in_ok-row_between.ensures in
    subst (λ (parts : List SetRow). ArePartsOf c.args.from c.args.end (take (i + 1) rows) parts) (sym c.in_ok-push.ensures.items)
    (subst (λ (all : List SetRow). ArePartsOf c.args.from c.args.end all (c.loop-row.parts.items ++ c.in_ok-row_between.field-0 ∷ [])) (sym split) more)
