use Rattle.std.proofs.Common.{◌∙◌, ap}
use Rattle.pol_run.specs.Run.{readings_of}
use Rattle.pol_summary.specs.Summary.{summary_text}
use Rattle.pol_summary.proofs.OneSummary.{holds, is_summary}
use Rattle.pol_summary.proofs.generate.summary_of.Goals as goal

pub returns-clause-summary : goal.returns-clause-summary
returns-clause-summary g c =
    is_summary c.args.options c.args.n (readings_of c.as_slice.result.now) c.in_ok-played.played.answers.items c.requires.room
    (ap readings_of (c.as_slice.ensures.value ∙ c.in_ok-script.ensures)) c.in_ok-played.ensures.one_each c.in_ok-played.ensures.run
    c.in_ok-text.text.items (c.in_ok-text.ensures ∙ ap summary_text c.as_slice-2.ensures.value)

pub returns-clause-history : goal.returns-clause-history
returns-clause-history g c =
    holds c.args.options c.args.n (readings_of c.as_slice.result.now) c.in_ok-played.played.answers.items c.requires.room
    (ap readings_of (c.as_slice.ensures.value ∙ c.in_ok-script.ensures)) c.in_ok-played.ensures.one_each c.in_ok-played.ensures.run
    c.in_ok-played.played.last c.in_ok-played.ensures.history
