use Rattle.pol_audit.proofs.Unique.{no_bad_line, one_bad_line, text_tells}
use Rattle.pol_audit.proofs.laws.texts_tell_tables.Goals as goal

pub returns : goal.returns
returns c = record { one_table = text_tells; no_bad_line = no_bad_line; one_bad_line = one_bad_line }
