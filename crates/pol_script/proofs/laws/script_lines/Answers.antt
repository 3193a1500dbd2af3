use Rattle.pol_script.proofs.ScriptLaws as lines
use Rattle.pol_script.proofs.laws.script_lines.Goals as goal

pub returns-clause-again : goal.returns-clause-again
returns-clause-again c = lines.again

pub returns-clause-open_end : goal.returns-clause-open_end
returns-clause-open_end c = lines.open_end

pub returns-clause-apart : goal.returns-clause-apart
returns-clause-apart c = lines.apart

pub returns-clause-whole : goal.returns-clause-whole
returns-clause-whole c = lines.whole
