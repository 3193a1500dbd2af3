use Rattle.std.proofs.Common.{is_some, ap, ◌∙◌}
use Rattle.std.proofs.lemmas.Result.{IfOk-weaker}
use Rattle.pol_script_commits.proofs.Starting.{under_these}
use Rattle.pol_map_dump.specs.AtEnd.{endpoint_after, map_text_after}
use Rattle.pol_model.specs.declared.options.Options.{Options}
use Rattle.pol_map_dump.proofs.end.map_after.Goals as goal

pub returns-clause-text : goal.returns-clause-text
returns-clause-text c =
    IfOk-weaker c.map_over.result _ _
    (λ map told. told ∙ ap (λ (o : Options). map_text_after o c.args.name.now c.args.readings.items) (under_these c.args.options c.in_ok-repo.repo c.in_ok-repo.ensures.start c.requires))
    c.map_over.ensures.text

pub returns-clause-live : goal.returns-clause-live
returns-clause-live c =
    IfOk-weaker c.map_over.result _ _
    (λ map told. told ∙ ap (λ (o : Options). is_some (endpoint_after o c.args.name.now c.args.readings.items)) (under_these c.args.options c.in_ok-repo.repo c.in_ok-repo.ensures.start c.requires))
    c.map_over.ensures.live
