-- No slot is in use but the first 256.
use Rattle.std.proofs.Common.{◌≤◌, List, [], ◌∷◌, arith}
use Rattle.std.specs.List.{AllByRecursion}
use Rattle.pol_model.specs.Committed.{slots_of}
use Rattle.pol_model.specs.State.{State}
use Rattle.pol_model.specs.declared.row.Endpoint.{Endpoint}
use Rattle.pol_model_laws.specs.Keeps.{IsLiveIn, Keeps}

few_slots_of : (s : State) (endpoints : List Endpoint) → AllByRecursion (IsLiveIn s) endpoints → slots_of endpoints ≤ 256
few_slots_of s [] each = omega arith
few_slots_of s (endpoint ∷ others) each =
    let first = each.0.slot in
    let rest = few_slots_of s others each.1 in
    omega (arith, first, rest)

pub few_slots : (s : State) → Keeps s → slots_of s.endpoints ≤ 256
few_slots s keeps = few_slots_of s s.endpoints keeps.endpoints
