use Rattle.pol_entry_changes.proofs.Raw.{walked_leads}
use Rattle.pol_entry_changes.proofs.turns.moved.Goals as goal

pub returns : goal.returns
returns c =
    walked_leads c.args.was.now c.args.is.now c.args.was_rows.now c.args.is_rows.now c.if-was.false c.if-is.false c.walked.result c.walked.ensures
