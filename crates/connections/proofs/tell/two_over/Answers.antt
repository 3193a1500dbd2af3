use Rattle.std.proofs.Common.{ap, ◌∙◌}
use Rattle.std.proofs.lemmas.Result.{IfOk-weaker}
use Rattle.pol_model.specs.declared.options.Options.{Options}
use Rattle.pol_repo.specs.Repository.{state_in}
use Rattle.pol_script_commits.proofs.Starting.{all_refused, at_end}
use Rattle.pol_script_commits.specs.Left.{state_after}
use Rattle.pol_script_commits.specs.Refused.{refusals_of}
use Rattle.connections.proofs.Telling.{two_ended, two_told}
use Rattle.connections.proofs.tell.two_over.Goals as goal

pub returns-clause-text : goal.returns-clause-text
returns-clause-text c =
    let s = c.args.before.now in
    let t = c.args.after.now in
    let one = c.args.one.items in
    let other = c.args.other.items in
    let before = c.in_ok-refused_before.ensures in
    let after = c.in_ok-refused_after.ensures in
    let same = c.requires.options in
    IfOk-weaker c.two_states.result _ _
    (λ told is. two_told c.args.halves t.options c.commit_all-2.new.repo.options (state_in c.commit_all.new.repo) (state_in c.commit_all-2.new.repo) _ _ one other after.options
    (at_end s c.commit_all.new.repo one c.requires.first before.state ∙ ap (λ (o : Options). state_after o one) same)
    (at_end t c.commit_all-2.new.repo other c.requires.first_after after.state)
    (c.as_slice.ensures.value ∙ all_refused s c.commit_all.new.repo one c.requires.first c.in_ok-refused_before.refused_before.items before.refused
    ∙ ap (λ (o : Options). refusals_of o one) same)
    (c.as_slice-2.ensures.value ∙ all_refused t c.commit_all-2.new.repo other c.requires.first_after c.in_ok-refused_after.refused_after.items after.refused)
    told.text.items is) c.two_states.ensures.text

pub returns-clause-status : goal.returns-clause-status
returns-clause-status c =
    let s = c.args.before.now in
    let t = c.args.after.now in
    let one = c.args.one.items in
    let other = c.args.other.items in
    let before = c.in_ok-refused_before.ensures in
    let after = c.in_ok-refused_after.ensures in
    let same = c.requires.options in
    IfOk-weaker c.two_states.result _ _
    (λ told is. two_ended c.args.halves t.options c.commit_all-2.new.repo.options (state_in c.commit_all.new.repo) (state_in c.commit_all-2.new.repo) _ _ one other after.options
    (at_end s c.commit_all.new.repo one c.requires.first before.state ∙ ap (λ (o : Options). state_after o one) same)
    (at_end t c.commit_all-2.new.repo other c.requires.first_after after.state)
    (c.as_slice.ensures.value ∙ all_refused s c.commit_all.new.repo one c.requires.first c.in_ok-refused_before.refused_before.items before.refused
    ∙ ap (λ (o : Options). refusals_of o one) same)
    (c.as_slice-2.ensures.value ∙ all_refused t c.commit_all-2.new.repo other c.requires.first_after c.in_ok-refused_after.refused_after.items after.refused)
    _ is) c.two_states.ensures.status
