use Rattle.std.proofs.Common.{ap, ◌∙◌}
use Rattle.std.proofs.lemmas.Result.{IfOk-weaker}
use Rattle.pol_audit.specs.Text.{text_of as table_text}
use Rattle.pol_model.specs.PolicyMap.{policy_map}
use Rattle.pol_model.specs.declared.row.Endpoint.{Endpoint}
use Rattle.pol_repo.specs.Repository.{state_in}
use Rattle.pol_map_dump.proofs.Ending.{one_endpoint}
use Rattle.pol_map_dump.proofs.map.map_in_slot.Goals as goal

pub returns-in-Ok-clause-text : goal.returns-in-Ok-clause-text
returns-in-Ok-clause-text c =
    let repo = c.args.repo.now in
    let own = one_endpoint _ c.in-Ok.taken.endpoint c.args.endpoint.now c.in-Ok.ensures.taken.endpoint c.requires.slot in
    let map = c.in-Ok.ensures.map ∙ ap (λ (e : Endpoint). policy_map repo.options (state_in repo) e) own in
    IfOk-weaker c.taken_map.result _ _ (λ made told. told ∙ ap table_text map) c.taken_map.ensures.text
