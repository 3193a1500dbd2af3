-- The last slot is the greatest.
use Rattle.std.proofs.Common.{◌+◌, sym, ap, ◌∙◌}
use Rattle.std.specs.Option.{option_map_or}
use Rattle.pol_model.specs.declared.row.Endpoint.{Endpoint}
use Rattle.pol_node.proofs.LastSlot.{last_slot}
use Rattle.pol_node.proofs.desk.slots_in.Goals as goal

pub returns-in-Some : goal.returns-in-Some
returns-in-Some c =
    sym (last_slot c.args.endpoints.now c.requires.ascend ∙ ap (λ o. option_map_or (λ (e : Endpoint). e.slot + 1) o 0) (sym c.in-Some.ensures.value))
