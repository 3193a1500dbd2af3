-- The law is a lemma.
use Rattle.pol_run.proofs.OutputsInShort.{marked_by_word}
use Rattle.pol_run.proofs.laws.marks_are_by_word.Goals as goal

pub returns : goal.returns
returns c = marked_by_word
