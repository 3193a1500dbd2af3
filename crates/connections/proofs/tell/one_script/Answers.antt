use Rattle.std.proofs.Common.{List, ap, ◌∙◌}
use Rattle.std.proofs.lemmas.Result.{IfOk-weaker}
use Rattle.pol_model.specs.declared.options.Options.{Options}
use Rattle.pol_run.specs.Spots.{Reading}
use Rattle.pol_script_commits.proofs.Starting.{under_these}
use Rattle.connections.specs.Told.{one_status, one_text}
use Rattle.connections.proofs.tell.one_script.Goals as goal

pub returns-clause-text : goal.returns-clause-text
returns-clause-text c =
    let same = under_these c.args.options c.in_ok-repo.repo c.in_ok-repo.ensures.start c.requires in
    IfOk-weaker c.one_over.result _ _
    (λ told is. is ∙ ap (λ (o : Options). one_text o c.in_ok-readings.readings.items) same
    ∙ ap (λ (readings : List Reading). one_text c.args.options readings) c.in_ok-readings.ensures.readings) c.one_over.ensures.text

pub returns-clause-status : goal.returns-clause-status
returns-clause-status c =
    let same = under_these c.args.options c.in_ok-repo.repo c.in_ok-repo.ensures.start c.requires in
    IfOk-weaker c.one_over.result _ _
    (λ told is. is ∙ ap (λ (o : Options). one_status o c.in_ok-readings.readings.items) same
    ∙ ap (λ (readings : List Reading). one_status c.args.options readings) c.in_ok-readings.ensures.readings) c.one_over.ensures.status
