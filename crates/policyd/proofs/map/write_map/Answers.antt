use Rattle.policyd.proofs.Tables.{writes_map, writes_part_of_map}
use Rattle.policyd.proofs.map.write_map.Goals as goal

pub returns-in-Ok-clause-map : goal.returns-in-Ok-clause-map
returns-in-Ok-clause-map g c = λ answered.
    writes_map c.args.options c.args.name.now _ _ c.args.script.now c.in-Ok.map.text.items _ c.in-Ok.map.live _ c.in-Ok.ensures.text c.in-Ok.ensures.live
    c.as_slice.ensures.value (c.write_text.ensures.all answered) (c.write_text.ensures.status answered)

pub returns-in-Ok-clause-part : goal.returns-in-Ok-clause-part
returns-in-Ok-clause-part g c = λ ended.
    writes_part_of_map _ _ c.in-Ok.map.text.items _ _ c.in-Ok.ensures.text c.as_slice.ensures.value (c.write_text.ensures.part ended)
