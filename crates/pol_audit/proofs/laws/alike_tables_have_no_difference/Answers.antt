use Rattle.pol_audit.proofs.Audited.{alike_has_none}
use Rattle.pol_audit.proofs.laws.alike_tables_have_no_difference.Goals as goal

pub returns : goal.returns
returns c = alike_has_none
