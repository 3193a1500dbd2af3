use Rattle.std.proofs.Common.{◌∙◌}
use Rattle.std.proofs.lemmas.Result.{IfOk-weaker}
use Rattle.pol_repo.specs.Repository.{state_in}
use Rattle.pol_script_commits.proofs.Starting.{all_refused, at_end}
use Rattle.connections.proofs.Telling.{one_ended, one_told}
use Rattle.connections.proofs.tell.one_over.Goals as goal

pub returns-clause-text : goal.returns-clause-text
returns-clause-text c =
    let old = c.args.repo.now in
    let new = c.commit_all.new.repo in
    let readings = c.args.readings.items in
    let done = c.in_ok-refusals.ensures in
    IfOk-weaker c.one_state.result _ _
    (λ told is. one_told old.options new.options (state_in new) _ readings done.options (at_end old new readings c.requires.first done.state)
    (c.as_slice.ensures.value ∙ all_refused old new readings c.requires.first c.in_ok-refusals.refusals.items done.refused) told.text.items is)
    c.one_state.ensures.text

pub returns-clause-status : goal.returns-clause-status
returns-clause-status c =
    let old = c.args.repo.now in
    let new = c.commit_all.new.repo in
    let readings = c.args.readings.items in
    let done = c.in_ok-refusals.ensures in
    IfOk-weaker c.one_state.result _ _
    (λ told is. one_ended old.options new.options (state_in new) _ readings done.options (at_end old new readings c.requires.first done.state)
    (c.as_slice.ensures.value ∙ all_refused old new readings c.requires.first c.in_ok-refusals.refusals.items done.refused) _ is)
    c.one_state.ensures.status
