use Rattle.std.proofs.Common.{slice_get, sym, ap, ◌∙◌}
use Rattle.std.proofs.lemmas.Bool.{ltb-false, ltb-true}
use Rattle.pol_tables.proofs.InOrder.{read_at, read_past, slot_nowhere, slot_other, slot_there}
use Rattle.pol_tables.proofs.slots.at_slot.Goals.{in_default-via-in-Some+else-endpoint-slot, in_default-via-in_default}
use Rattle.pol_tables.proofs.slots.at_slot.Goals as goal

pub returns-in-Some : goal.returns-in-Some
returns-in-Some c =
    let list = c.args.endpoints.now in
    let read = read_at list c.place_of.result c.in-Some.endpoint.now (ltb-true _ _ (sym c.in-Some.ensures.lookup.0)) c.in-Some.ensures.lookup.1 in
    sym (slot_there c.args.slot list c.requires c.in-Some.endpoint.now (ap (slice_get list) (sym c.place_of.ensures) ∙ read) c.if-endpoint-slot.true)

pub returns-in_default : goal.returns-in_default
returns-in_default c =
    let list = c.args.endpoints.now in
    elim c.in_default.branch [
      | in_default-via-in-Some+else-endpoint-slot w ↦
          let read = read_at list c.place_of.result w.in-Some.endpoint.now (ltb-true _ _ (sym w.in-Some.ensures.lookup.0)) w.in-Some.ensures.lookup.1 in
          sym (slot_other c.args.slot list c.requires w.in-Some.endpoint.now (ap (slice_get list) (sym c.place_of.ensures) ∙ read) w.if-endpoint-slot.false)
      | in_default-via-in_default w ↦
          let read = read_past list c.place_of.result (ltb-false _ _ (sym w.in_default.ensures.lookup.0)) in
          sym (slot_nowhere c.args.slot list c.requires (ap (slice_get list) (sym c.place_of.ensures) ∙ read))
    ]
