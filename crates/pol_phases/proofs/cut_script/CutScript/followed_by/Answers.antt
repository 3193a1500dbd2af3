use Rattle.pol_phases.proofs.TwoParts.{cut_followed}
use Rattle.pol_phases.proofs.cut_script.CutScript.followed_by.Goals as goal

pub returns : goal.returns
returns c = λ sessions lines more. cut_followed sessions lines more c.args.self c.args.later _ c.in_ok-phases.ensures c.in_ok-append.ensures.appended
