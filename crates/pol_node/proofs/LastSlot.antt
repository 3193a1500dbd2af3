-- Endpoints in the order of their slots: the last one has the greatest.
use Rattle.std.proofs.Common.{suc, ◌≡◌, ℕ, ◌+◌, ◌-◌, ◌<◌, List, [], ◌∷◌, length, map, slice_get, refl, sym, ap, ◌∙◌, arith}
use Rattle.std.specs.Option.{option_map_or}
use Rattle.pol_model.specs.Ascending.{Ascends}
use Rattle.pol_model.specs.Committed.{slots_of}
use Rattle.pol_model.specs.declared.row.Endpoint.{Endpoint}

slots_above : (m : ℕ) (endpoint : Endpoint) (others : List Endpoint) → m < endpoint.slot → m + 1 < slots_of (endpoint ∷ others)
slots_above m endpoint others less = omega arith

pub last_slot : (endpoints : List Endpoint) → Ascends (map (λ endpoint. endpoint.slot) endpoints)
    → slots_of endpoints ≡ option_map_or (λ endpoint. endpoint.slot + 1) (slice_get endpoints (length endpoints - 1)) 0
last_slot [] ascends = refl
last_slot (endpoint ∷ []) ascends = omega arith
last_slot (endpoint ∷ other ∷ others) ascends =
    let rest = last_slot (other ∷ others) ascends.1 in
    let above = slots_above endpoint.slot other others ascends.0.0 in
    let greater : slots_of (endpoint ∷ other ∷ others) ≡ slots_of (other ∷ others) = omega arith in
    let last : length (endpoint ∷ other ∷ others) - 1 ≡ suc (length (other ∷ others) - 1) = omega arith in
    greater ∙ rest ∙ sym (ap (λ i. option_map_or (λ (e : Endpoint). e.slot + 1) (slice_get (endpoint ∷ other ∷ others) i) 0) last)
