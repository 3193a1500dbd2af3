use Rattle.std.proofs.Common.{ap, ◌∙◌, sym}
use Rattle.std.proofs.lemmas.Result.{IfOk-weaker}
use Rattle.pol_model.specs.declared.options.Options.{Options}
use Rattle.pol_script_commits.proofs.Starting.{under_these}
use Rattle.connections.specs.Told.{two_status, two_text}
use Rattle.connections.proofs.tell.two_beside.Goals as goal

pub two_over-requires-clause-options : goal.two_over-requires-clause-options
two_over-requires-clause-options c =
    c.requires.options ∙ sym (under_these c.args.asked.options c.in_ok-after.after c.in_ok-after.ensures.start c.requires.no_limit)

pub returns-clause-text : goal.returns-clause-text
returns-clause-text c =
    IfOk-weaker c.two_over.result _ _
    (λ told is. is ∙ ap (λ (o : Options). two_text c.args.asked.halves o c.args.one.items c.args.other.items)
    (under_these c.args.asked.options c.in_ok-after.after c.in_ok-after.ensures.start c.requires.no_limit)) c.two_over.ensures.text

pub returns-clause-status : goal.returns-clause-status
returns-clause-status c =
    IfOk-weaker c.two_over.result _ _
    (λ told is. is ∙ ap (λ (o : Options). two_status c.args.asked.halves o c.args.one.items c.args.other.items)
    (under_these c.args.asked.options c.in_ok-after.after c.in_ok-after.ensures.start c.requires.no_limit)) c.two_over.ensures.status
