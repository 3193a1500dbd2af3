use Rattle.std.proofs.Common.{map, sym, subst}
use Rattle.pol_connection_maps.specs.Telling.{AreOfKinds}
use Rattle.pol_connection_maps.proofs.targets.told_list.Goals as goal

pub list_of-requires : goal.list_of-requires
list_of-requires g c =
    let t = g.E.Tells.telling in
    subst (λ es. AreOfKinds t (map (λ first. first.now) c.deref.result.now) es) (sym c.deref-2.ensures.value)
    (subst (λ fs. AreOfKinds t (map (λ first. first.now) fs) c.in_ok-kinds.kinds.ends.items) (sym c.deref.ensures.value) (c.in_ok-kinds.ensures.kinds c.requires.maps c.requires.all))
