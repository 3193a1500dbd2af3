-- The laws are lemmas.
use Rattle.pol_answer.proofs.TextsTell.{plain, texts_tell}
use Rattle.pol_answer.proofs.laws.the_texts_tell_the_answers.Goals as goal

pub returns : goal.returns
returns c = record { plain = plain; tell = texts_tell }
