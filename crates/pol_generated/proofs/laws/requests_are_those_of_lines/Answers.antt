-- The law is two lemmas.
use Rattle.pol_generated.proofs.Counted.{requests_counted, requests_of_lines}
use Rattle.pol_generated.proofs.laws.requests_are_those_of_lines.Goals as goal

pub returns-clause-lines : goal.returns-clause-lines
returns-clause-lines c = requests_of_lines

pub returns-clause-count : goal.returns-clause-count
returns-clause-count c = requests_counted
