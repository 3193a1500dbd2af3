use Rattle.std.proofs.Common.{◌≡◌, drop, map}
use Rattle.pol_model.specs.Endpoints.{free_slot}
use Rattle.pol_model.specs.Numbers.{least_free}
use Rattle.pol_tables.proofs.slots.least_slot.Given as goal

abbrev pub invariant-loop-endpoint : goal.invariant-loop-endpoint
invariant-loop-endpoint l =
    least_free l.next (map (λ endpoint. endpoint.slot) (drop l.endpoint-index l.endpoints)) ≡ free_slot l.endpoints
