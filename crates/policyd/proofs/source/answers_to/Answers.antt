use Rattle.std.proofs.Common.{◌∙◌, ap}
use Rattle.std.specs.List.{list_any}
use Rattle.pol_answer.specs.Text.{texts_of}
use Rattle.pol_run.specs.Run.{is_marked}
use Rattle.policyd.proofs.ScriptRun.{printed_history, printed_run}
use Rattle.policyd.proofs.source.answers_to.Goals as goal

pub returns-clause-run : goal.returns-clause-run
returns-clause-run g c =
    printed_run c.args.options c.args.script.now c.in_ok-text.text.items c.in_ok-played.played.answers.items c.any_marked-marked.result
    c.in_ok-played.ensures.one_each c.in_ok-played.ensures.run (c.in_ok-text.ensures.text ∙ ap texts_of c.as_slice.ensures.value)
    (c.any_marked-marked.ensures ∙ ap (list_any is_marked) c.as_slice-2.ensures.value)

pub returns-clause-history : goal.returns-clause-history
returns-clause-history g c =
    printed_history c.args.options c.args.script.now c.in_ok-text.text.items c.in_ok-played.played.answers.items c.in_ok-played.played.last
    c.in_ok-played.ensures.one_each c.in_ok-played.ensures.legal c.in_ok-played.ensures.history
    (c.in_ok-text.ensures.text ∙ ap texts_of c.as_slice.ensures.value)
