use Rattle.std.proofs.Common.{List, ap, ◌∙◌}
use Rattle.std.proofs.lemmas.Result.{IfOk-weaker}
use Rattle.pol_run.specs.Run.{readings_of}
use Rattle.pol_run.specs.Spots.{Reading}
use Rattle.pol_script_commits.proofs.Starting.{under_these}
use Rattle.connections.specs.Told.{two_status, two_text}
use Rattle.connections.proofs.tell.two_scripts.Goals as goal

pub two_beside-requires-clause-options : goal.two_beside-requires-clause-options
two_beside-requires-clause-options c = under_these c.args.asked.options c.in_ok-before.before c.in_ok-before.ensures.start c.requires

pub returns-clause-text : goal.returns-clause-text
returns-clause-text c =
    IfOk-weaker c.two_beside.result _ _
    (λ told is. is ∙ ap (λ (readings : List Reading). two_text c.args.asked.halves c.args.asked.options readings c.in_ok-other.other.items) c.in_ok-one.ensures.readings
    ∙ ap (λ (readings : List Reading). two_text c.args.asked.halves c.args.asked.options (readings_of c.args.front.now) readings) c.in_ok-other.ensures.readings)
    c.two_beside.ensures.text

pub returns-clause-status : goal.returns-clause-status
returns-clause-status c =
    IfOk-weaker c.two_beside.result _ _
    (λ told is. is ∙ ap (λ (readings : List Reading). two_status c.args.asked.halves c.args.asked.options readings c.in_ok-other.other.items) c.in_ok-one.ensures.readings
    ∙ ap (λ (readings : List Reading). two_status c.args.asked.halves c.args.asked.options (readings_of c.args.front.now) readings) c.in_ok-other.ensures.readings)
    c.two_beside.ensures.status
