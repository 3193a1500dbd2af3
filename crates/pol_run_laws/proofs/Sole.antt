-- In a small output one endpoint is live: what is said of an endpoint is said of it.
use Rattle.std.proofs.Common.{◌≡◌, ℕ, Bool, true, false, cond, List, [], ◌∷◌, bytes_eq, None, Some, refl, sym, subst}
use Rattle.std.proofs.lemmas.Slice.Eq.{bytes_eq-Decides}
use Rattle.pol_model.specs.Endpoints.{endpoint_of}
use Rattle.pol_model.specs.State.{State}
use Rattle.pol_model.specs.declared.row.Endpoint.{Endpoint}
use Rattle.pol_history.specs.declared.event.EndpointId.{EndpointId}
use Rattle.pol_history.specs.Commits.{Lives}
use Rattle.pol_history.proofs.Same.{live-parts}
use Rattle.pol_run_laws.proofs.Looks.{id_of}
use Rattle.pol_history.proofs.Lists.{no_element}
use Rattle.pol_run_laws.proofs.Places.{same_element}

found_only : (name : List ℕ) (row found : Endpoint) (same : Bool) → bytes_eq row.name name ≡ same → cond same (Some row) None ≡ Some found
    → (row.name ≡ name) × (row ≡ found)
found_only name row found true is there = ((bytes_eq-Decides row.name name).0 is, same_element row found there)
found_only name row found false is there = absurd (no_element found there)

-- where one row is live, an endpoint that lives is its
pub only_live : (s : State) (row : Endpoint) (endpoint : EndpointId) → s.endpoints ≡ row ∷ [] → Lives s endpoint
    → id_of row.name row ≡ endpoint
only_live s row endpoint one lives =
    let parts = live-parts endpoint s lives.row lives.found in
    let found = found_only endpoint.name row lives.row (bytes_eq row.name endpoint.name) refl
    (subst (λ (rows : List Endpoint). endpoint_of endpoint.name rows ≡ Some lives.row) one parts.0) in
    let name : row.name ≡ endpoint.name = found.0 in
    let added : row.added ≡ endpoint.added = subst (λ (r : Endpoint). r.added ≡ endpoint.added) (sym found.1) parts.1 in
    λ i. record { name = name i; added = added i }
