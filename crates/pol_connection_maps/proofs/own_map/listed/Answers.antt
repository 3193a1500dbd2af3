use Rattle.std.proofs.Common.{◌≤◌, ◌++◌, [], ◌∷◌, length, take, sym, subst, ap, ◌∙◌}
use Rattle.std.proofs.lemmas.List.{take_all, take_more}
use Rattle.std.proofs.lemmas.Option.{get_or_from_slice_get, slice_get_within}
use Rattle.pol_connection_maps.proofs.own_map.listed.Goals as goal

pub loop-place-preserved : goal.loop-place-preserved
loop-place-preserved c =
    let at = c.at.ensures in
    let more = take_more c.args.table.now c.loop-place.place c.at.result (slice_get_within c.args.table.now c.loop-place.place c.at.result at) in
    let last = get_or_from_slice_get c.args.table.now c.loop-place.place c.at.result c.at.result at in
    c.in_ok-push.ensures.items ∙ ap (λ front. front ++ c.at.result ∷ []) c.loop-place.invariant ∙ sym (more ∙ ap (λ x. take c.loop-place.place c.args.table.now ++ x ∷ []) last)

pub returns : goal.returns
returns c =
    let all : length c.args.table.now ≤ c.loop-place.place = subst (λ n. n ≤ c.loop-place.place) c.count-place-end.ensures c.loop-place-test.false in
    c.loop-place.invariant ∙ take_all c.loop-place.place c.args.table.now all
