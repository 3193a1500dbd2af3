use Rattle.std.proofs.Common.{◌≡◌, ◌+◌, ◌<◌, ◌∷◌, drop, length, Some, sym, ap, ◌∙◌, subst, arith}
use Rattle.std.specs.List.{AllByRecursion}
use Rattle.std.proofs.lemmas.List.{drop_more}
use Rattle.pol_data.proofs.Every.{every-drop}
use Rattle.pol_sets.specs.declared.sets.SetRow.{SetRow}
use Rattle.pol_selcache.specs.Live.{number_of}
use Rattle.pol_taken.proofs.known_peers.rows_now.Goals as goal

pub row_now-requires : goal.row_now-requires
row_now-requires c =
    let all = c.args.rows.now in
    let i = c.loop-row.row-index in
    let item = c.row-item.result in
    let within : i < length all = omega arith in
    let split : drop i all ≡ item ∷ drop (i + 1) all = drop_more all i item within ∙ ap (λ q. q ∷ drop (i + 1) all) (sym c.row-item.is) in
    let P : SetRow → Type 0 = λ row. number_of row.peer c.args.cache.now.live ≡ Some row.selector in
    let here = subst (AllByRecursion P) split (every-drop P i all c.requires.numbers) in
    record { number = here.0 }
