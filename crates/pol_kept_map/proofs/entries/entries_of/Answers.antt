use Rattle.std.proofs.Common.{◌++◌, [], ◌∷◌, take, sym, ap, ◌∙◌}
use Rattle.std.proofs.lemmas.List.{take_more}
use Rattle.std.proofs.lemmas.Option.{get_or_from_slice_get, slice_get_within}
use Rattle.pol_kept_map.proofs.entries.entries_of.Goals as goal

pub loop-place-preserved : goal.loop-place-preserved
loop-place-preserved c =
    let at = c.at.ensures in
    let more = take_more c.args.table.now c.loop-place.place c.at.result (slice_get_within c.args.table.now c.loop-place.place c.at.result at) in
    let last = get_or_from_slice_get c.args.table.now c.loop-place.place c.at.result c.at.result at in
    c.in_ok-push.ensures.items ∙ ap (λ front. front ++ c.at.result ∷ []) c.loop-place.invariant ∙ sym (more ∙ ap (λ x. take c.loop-place.place c.args.table.now ++ x ∷ []) last)
