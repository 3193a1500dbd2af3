use Rattle.pol_connection_text.proofs.ReadAgain.{connection_read, name_read, refusal_read}
use Rattle.pol_connection_text.proofs.laws.lines_are_read_as_json.Goals as goal

pub returns : goal.returns
returns c = record { connections = connection_read; names = name_read; refusals = refusal_read }
