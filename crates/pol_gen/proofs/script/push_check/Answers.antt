use Rattle.pol_gen.proofs.Texts.{two_parts}
use Rattle.pol_gen.proofs.script.push_check.Goals as goal

pub returns-clause-lines : goal.returns-clause-lines
returns-clause-lines c = two_parts c.push_verdicts.result _ _ _ _ _ c.in_ok-push_text.ensures c.push_verdicts.ensures.lines
