use Rattle.pol_audit.proofs.Lengths.{lines_counted}
use Rattle.pol_audit.proofs.laws.texts_have_a_line_an_entry.Goals as goal

pub returns : goal.returns
returns c = lines_counted
