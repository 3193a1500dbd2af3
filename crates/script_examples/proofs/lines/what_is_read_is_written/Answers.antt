-- The law is a lemma.
use Rattle.script_examples.proofs.AsRead.{as_read}
use Rattle.script_examples.proofs.lines.what_is_read_is_written.Goals as goal

pub returns : goal.returns
returns c = as_read
