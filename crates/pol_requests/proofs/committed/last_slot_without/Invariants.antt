use Rattle.std.proofs.Common.{◌≡◌, [], drop}
use Rattle.pol_model.specs.Endpoints.{without_endpoint}
use Rattle.pol_requests.proofs.committed.last_slot_without.Given as goal

-- those gone through, from the last one on, have this name
abbrev pub invariant-loop-i : goal.invariant-loop-i
invariant-loop-i l = without_endpoint l.name (drop l.i l.endpoints) ≡ []
