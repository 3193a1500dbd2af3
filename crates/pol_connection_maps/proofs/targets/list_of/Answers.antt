use Rattle.std.proofs.Common.{◌<◌, length, map, sym, ap, ◌∙◌, arith}
use Rattle.std.specs.List.{flat_map, slice_get}
use Rattle.std.proofs.lemmas.List.{take_all}
use Rattle.std.proofs.lemmas.List.Folds.{flat_map-map}
use Rattle.pol_connection_maps.specs.Telling.{connection_to, ends_in, targets}
use Rattle.pol_connection_maps.proofs.Lookup.{cell_is, cell_turn}
use Rattle.pol_connection_maps.proofs.Shared.{kind_at, list_by_targets, same_targets}
use Rattle.pol_connection_maps.proofs.targets.list_of.Goals as goal

pub loop-from-preserved : goal.loop-from-preserved
loop-from-preserved g c =
    let t = g.E.Tells.telling in
    let ends = c.args.ends.now in
    let all = ends_in ends in
    let firsts = map (λ first. first.now) c.args.firsts.now in
    let i = c.loop-from.from-index in
    let one = c.from-item.result in
    let within : i < length ends = omega (arith, c.loop-from-test.true) in
    let of_kind = kind_at t firsts ends i one c.requires within c.from-item.is in
    let at = ap (slice_get firsts) c.kind.ensures ∙ of_kind.at in
    let cell = cell_is (λ row. row.items) (targets t all) c.in_ok-rows.rows.items firsts c.in_ok-rows.ensures c.kind.result of_kind.first at c.index.result.now c.index.ensures in
    cell_turn connection_to (λ one. t.name one.0) (λ one. targets t all one.0) ends i one c.name.result.now c.deref.result.now c.loop-from.out.items c.push_from.new.out.items
    c.loop-from.invariant (c.name.ensures ∙ ap t.name c.end.ensures) (c.deref.ensures.value ∙ cell ∙ same_targets t of_kind.first one.0 of_kind.alike all)
    c.in_ok-push_from.ensures within c.from-item.is

pub returns : goal.returns
returns g c =
    let t = g.E.Tells.telling in
    let ends = c.args.ends.now in
    let all = ends_in ends in
    c.loop-from.invariant
    ∙ ap (λ es. flat_map (λ one. map (connection_to (t.name one.0)) (targets t all one.0)) es) (take_all c.loop-from.from-index ends (omega (arith, c.loop-from-test.false)))
    ∙ sym (flat_map-map (λ from. map (connection_to (t.name from)) (targets t all from)) (λ one. one.0) ends)
    ∙ list_by_targets t all
