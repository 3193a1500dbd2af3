-- The laws are lemmas.
use Rattle.script_examples.proofs.ReadAgain.{bytes_again, every_again}
use Rattle.script_examples.proofs.lines.every_command_is_read_again.Goals as goal

pub returns : goal.returns
returns c = record { value = every_again; bytes = bytes_again }
