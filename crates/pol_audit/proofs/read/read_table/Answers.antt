use Rattle.pol_audit.proofs.Unique.{read_again}
use Rattle.pol_audit.proofs.read.read_table.Goals as goal

pub returns-clause-again : goal.returns-clause-again
returns-clause-again c =
    read_again c.args.text.now c.read_entries.result c.read_entries.ensures.text c.read_entries.ensures.kept c.read_entries.ensures.cause
