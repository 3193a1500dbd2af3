use Rattle.policyd.proofs.Tables.{writes_finding, writes_part_of_finding}
use Rattle.policyd.proofs.audit.write_finding.Goals as goal

pub returns-in-Ok-clause-audit : goal.returns-in-Ok-clause-audit
returns-in-Ok-clause-audit g c = λ answered.
    writes_finding c.args.text.now c.in-Ok.told.line.items _ c.in-Ok.told.marked c.in-Ok.ensures _ _ c.as_slice.ensures.value _
    (c.write_text.ensures.all answered) (c.write_text.ensures.status answered)

pub returns-in-Ok-clause-part : goal.returns-in-Ok-clause-part
returns-in-Ok-clause-part g c = λ ended.
    writes_part_of_finding c.args.text.now c.in-Ok.told.line.items _ c.in-Ok.told.marked c.in-Ok.ensures _ _ c.as_slice.ensures.value
    (c.write_text.ensures.part ended)
