use Rattle.pol_json.proofs.FirstFaults.{read_is_sound}
use Rattle.pol_json.proofs.laws.what_is_read_has_no_cause.Goals as goal

pub returns : goal.returns
returns c = read_is_sound
