use Rattle.connections.proofs.Writing.{writes, writes_part}
use Rattle.connections.proofs.play.write_told.Goals as goal

pub returns-in-Ok-clause-connections : goal.returns-in-Ok-clause-connections
returns-in-Ok-clause-connections g c = λ answered.
    writes c.args.asked _ _ c.args.input.now c.in-Ok.told.text.items _ c.in-Ok.ensures.text c.as_slice.ensures.value _ c.in-Ok.told.status
    c.in-Ok.ensures.status (c.write_text.ensures.same answered) (c.write_text.ensures.all answered)

pub returns-in-Ok-clause-part : goal.returns-in-Ok-clause-part
returns-in-Ok-clause-part g c = λ ended.
    writes_part c.args.asked _ _ c.args.input.now c.in-Ok.told.text.items _ c.in-Ok.ensures.text c.as_slice.ensures.value (c.write_text.ensures.part ended)
