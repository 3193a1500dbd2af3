use Rattle.std.proofs.Common.{sym, ◌∙◌}
use Rattle.pol_connection_maps.proofs.Same.{same_lists}
use Rattle.pol_connection_maps.proofs.own_map.OwnMap.is_same.Goals as goal

pub returns : goal.returns
returns c = λ same.
    sym c.self.view_is ∙ sym c.self.invariant ∙ sym c.as_slice.ensures.value
    ∙ same_lists c.as_slice.result.now c.as_slice-2.result.now (sym c.eq.ensures ∙ same)
    ∙ c.as_slice-2.ensures.value ∙ c.other.invariant ∙ c.other.view_is
