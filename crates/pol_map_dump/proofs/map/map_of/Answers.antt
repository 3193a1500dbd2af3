use Rattle.std.proofs.Common.{sym}
use Rattle.pol_map_dump.proofs.Ending.{slot_found}
use Rattle.pol_map_dump.proofs.map.map_of.Goals as goal

pub map_in_slot-requires-clause-slot : goal.map_in_slot-requires-clause-slot
map_in_slot-requires-clause-slot c =
    slot_found c.args.repo.now.options c.args.repo.now.journal c.args.name.now c.in-Some.endpoint.now (sym c.in-Some.ensures.found)
