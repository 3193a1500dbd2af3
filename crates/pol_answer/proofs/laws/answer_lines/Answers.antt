use Rattle.pol_answer.proofs.AnswerLaws.{one_line, read_again}
use Rattle.pol_answer.proofs.laws.answer_lines.Goals as goal

pub returns-clause-one_line : goal.returns-clause-one_line
returns-clause-one_line c = one_line

pub returns-clause-again : goal.returns-clause-again
returns-clause-again c = read_again
