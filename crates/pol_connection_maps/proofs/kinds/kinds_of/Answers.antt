use Rattle.std.proofs.Common.{◌<◌, ◌++◌, [], ◌∷◌, length, map, sym, subst, ◌∙◌, arith}
use Rattle.std.proofs.lemmas.List.{take_all}
use Rattle.pol_connection_maps.specs.Telling.{AreOfKinds}
use Rattle.pol_connection_maps.proofs.Lookup.{every_at}
use Rattle.pol_connection_maps.proofs.Shared.{more_ends, more_kinds}
use Rattle.pol_connection_maps.proofs.kinds.kinds_of.Goals as goal

pub loop-end-preserved : goal.loop-end-preserved
loop-end-preserved g c =
    let t = g.E.Tells.telling in
    let all = c.args.ends.now in
    let i = c.loop-end.end-index in
    let item = c.end-item.result in
    let kind = c.in_ok-kind.kind in
    let old = map (λ first. first.now) c.loop-end.firsts.items in
    let new = map (λ first. first.now) c.kind_of.new.firsts.items in
    let within : i < length all = omega (arith, c.loop-end-test.true) in
    let pushed = c.in_ok-push.ensures.items ∙ (λ j. c.loop-end.of_kinds.items ++ c.new.ensures j ∷ []) in
    record {
      ends = more_ends t all i item kind c.loop-end.of_kinds.items c.push.new.self.items pushed c.loop-end.invariant.ends within c.end-item.is;
      kinds = λ maps stand.
          let so_far = c.loop-end.invariant.kinds maps stand in
          let finds = c.in_ok-kind.ensures maps so_far.1 (every_at (g.E.Tells.stands maps) all i item stand within c.end-item.is) in
          (subst (AreOfKinds t new) (sym pushed) (more_kinds t (g.E.Tells.stands maps) old new c.loop-end.of_kinds.items item kind so_far.0 finds), finds.stand);
    }

pub returns : goal.returns
returns g c = record {
  ends = c.loop-end.invariant.ends ∙ take_all c.loop-end.end-index c.args.ends.now c.loop-end-test.false;
  kinds = λ maps stand. (c.loop-end.invariant.kinds maps stand).0;
}
