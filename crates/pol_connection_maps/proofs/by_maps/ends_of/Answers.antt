use Rattle.std.proofs.Common.{map, ap, ◌∙◌}
use Rattle.std.proofs.lemmas.Result.{IfOk-weaker}
use Rattle.pol_connection_maps.specs.Seen.{seen_row}
use Rattle.pol_connection_maps.proofs.by_maps.ends_of.Goals as goal

pub returns : goal.returns
returns c =
    IfOk-weaker c.with_maps.result _ _ (λ ends made maps are. made maps are ∙ ap (map (seen_row maps)) (c.deref.ensures.value ∙ c.in_ok-ends.ensures)) c.with_maps.ensures
