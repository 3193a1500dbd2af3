use Rattle.std.proofs.Common.{◌≡◌, map, take}
use Rattle.pol_machine.proofs.full.slots_of.Given as goal

abbrev pub invariant-loop-endpoint : goal.invariant-loop-endpoint
invariant-loop-endpoint l = l.slots.items ≡ map (λ e. e.slot) (take l.endpoint-index l.endpoints)
