use Rattle.std.proofs.Common.{◌<◌, length, map, sym, ap, ◌∙◌, arith}
use Rattle.std.specs.List.{flat_map, slice_get}
use Rattle.std.proofs.lemmas.List.{take_all}
use Rattle.std.proofs.lemmas.List.Folds.{flat_map-map}
use Rattle.pol_connection_maps.specs.Telling.{ports_between, reached, targets_at}
use Rattle.pol_connection_maps.proofs.Lookup.{cell_is, cell_turn}
use Rattle.pol_connection_maps.proofs.Shared.{kind_at}
use Rattle.pol_connection_maps.proofs.targets.targets_from.Goals as goal

pub loop-to-preserved : goal.loop-to-preserved
loop-to-preserved g c =
    let t = g.E.Tells.telling in
    let from = c.args.from.now in
    let ends = c.args.ends.now in
    let firsts = map (λ first. first.now) c.args.firsts.now in
    let i = c.loop-to.to-index in
    let one = c.to-item.result in
    let within : i < length ends = omega (arith, c.loop-to-test.true) in
    let of_kind = kind_at t firsts ends i one c.requires within c.to-item.is in
    let at = ap (slice_get firsts) c.kind.ensures ∙ of_kind.at in
    let cell = cell_is (λ cell. cell.items) (ports_between t from) c.in_ok-row.row.items firsts c.in_ok-row.ensures c.kind.result of_kind.first at c.index.result.now c.index.ensures in
    cell_turn reached (λ one. t.name one.0) (λ one. ports_between t from one.0) ends i one c.name.result.now c.deref.result.now c.loop-to.out.items c.push_to.new.out.items
    c.loop-to.invariant (c.name.ensures ∙ ap t.name c.end.ensures) (c.deref.ensures.value ∙ cell ∙ of_kind.alike.to from) c.in_ok-push_to.ensures within c.to-item.is

pub returns : goal.returns
returns g c =
    let t = g.E.Tells.telling in
    let ends = c.args.ends.now in
    c.loop-to.invariant
    ∙ ap (λ es. flat_map (λ one. targets_at t c.args.from.now one.0) es) (take_all c.loop-to.to-index ends (omega (arith, c.loop-to-test.false)))
    ∙ sym (flat_map-map (targets_at t c.args.from.now) (λ one. one.0) ends)
