use Rattle.std.proofs.Common.{List, is_some, ap, ◌∙◌}
use Rattle.std.proofs.lemmas.Result.{IfOk-weaker}
use Rattle.pol_map_dump.specs.AtEnd.{endpoint_after, map_text_after}
use Rattle.pol_run.specs.Spots.{Reading}
use Rattle.pol_map_dump.proofs.end.map_at_end.Goals as goal

pub returns-clause-text : goal.returns-clause-text
returns-clause-text c =
    IfOk-weaker c.map_after.result _ _
    (λ map told. told ∙ ap (λ (readings : List Reading). map_text_after c.args.options c.args.name.now readings) c.in_ok-readings.ensures.readings)
    c.map_after.ensures.text

pub returns-clause-live : goal.returns-clause-live
returns-clause-live c =
    IfOk-weaker c.map_after.result _ _
    (λ map told. told ∙ ap (λ (readings : List Reading). is_some (endpoint_after c.args.options c.args.name.now readings)) c.in_ok-readings.ensures.readings)
    c.map_after.ensures.live
