use Rattle.policyd.proofs.Drills.{writes_drill, writes_part_of_drill}
use Rattle.policyd.proofs.crash.write_drill.Goals as goal

pub returns-in-Ok-clause-drill : goal.returns-in-Ok-clause-drill
returns-in-Ok-clause-drill g c = λ answered.
    writes_drill c.args.options c.args.call c.args.script.now c.in-Ok.drilled.text.items _ c.in-Ok.drilled.marked c.in-Ok.ensures _ _ c.as_slice.ensures.value _
    (c.write_text.ensures.all answered) (c.write_text.ensures.status answered)

pub returns-in-Ok-clause-part : goal.returns-in-Ok-clause-part
returns-in-Ok-clause-part g c = λ ended.
    writes_part_of_drill c.args.options c.args.call c.args.script.now c.in-Ok.drilled.text.items _ c.in-Ok.drilled.marked c.in-Ok.ensures _ _ c.as_slice.ensures.value
    (c.write_text.ensures.part ended)
