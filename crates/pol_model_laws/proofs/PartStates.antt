-- What a request takes and gives up: the rows before it and those after it are parts of the rows in between.
use Rattle.std.proofs.Common.{◌≡◌, true, map, option_map, sym, ap, ◌∙◌, subst}
use Rattle.pol_data.proofs.Members.{In}
use Rattle.pol_rule.specs.Prefixes.{policy_prefixes}
use Rattle.pol_model.specs.declared.request.Request.{Request}
use Rattle.pol_model.specs.declared.request.Request.TheVariants.{AddEndpoint, RemoveEndpoint, AddIdentity, RemoveIdentity, Apply, Remove, SetMode}
use Rattle.pol_model.specs.declared.row.IdentityRow.{IdentityRow}
use Rattle.pol_model.specs.After.{after}
use Rattle.pol_model.specs.Endpoints.{endpoint_of, named_of}
use Rattle.pol_model_laws.specs.Holding.{has_row, uncounted, IsPartOf, rows_taken}
use Rattle.pol_model.specs.Identities.{labels_held}
use Rattle.pol_model.specs.Policies.{policy_at, prefixes_of}
use Rattle.pol_model.specs.Prefixes.{prefixes_held}
use Rattle.pol_model.specs.State.{State}
use Rattle.pol_model.proofs.AscendingStates.{RowsAscend, prefixes_held_ascend}
use Rattle.pol_model_laws.proofs.Membership.{In-filter, In-map, map-In}
use Rattle.pol_model_laws.proofs.Parts.{part-itself, part-labels_held, part-number_released, part-prefixes_held, part-prefixes_released, part-row}

pub part_before : (s : State) (request : Request) → RowsAscend s.identities → IsPartOf s.identities (rows_taken s request)
part_before s (AddEndpoint name labels address) ascend = part-labels_held labels s.identities ascend
part_before s (RemoveEndpoint name) ascend = part-itself s.identities
part_before s (AddIdentity name labels) ascend = part-labels_held labels s.identities ascend
part_before s (RemoveIdentity name) ascend = part-itself s.identities
part_before s (Apply policy) ascend = part-prefixes_held (policy_prefixes policy) s.identities ascend
part_before s (Remove key) ascend = part-itself s.identities
part_before s (SetMode mode) ascend = part-itself s.identities

pub part_after : (s : State) (request : Request) → RowsAscend s.identities → IsPartOf (after s request).identities (rows_taken s request)
part_after s (AddEndpoint name labels address) ascend = part-itself (labels_held labels s.identities)
part_after s (RemoveEndpoint name) ascend = part-number_released (option_map (λ endpoint. endpoint.identity) (endpoint_of name s.endpoints)) s.identities ascend
part_after s (AddIdentity name labels) ascend = part-itself (labels_held labels s.identities)
part_after s (RemoveIdentity name) ascend = part-number_released (option_map (λ identity. identity.number) (named_of name s.named)) s.identities ascend
part_after s (Apply policy) ascend =
    part-prefixes_released (prefixes_of (policy_at policy.key s.policies)) (prefixes_held (policy_prefixes policy) s.identities)
    (prefixes_held_ascend (policy_prefixes policy) s.identities ascend)
part_after s (Remove key) ascend = part-prefixes_released (prefixes_of (policy_at key s.policies)) s.identities ascend
part_after s (SetMode mode) ascend = part-itself s.identities

-- a row after the request, whose number had a row before it, is that row, its count aside
pub row_before : (s : State) (request : Request) → RowsAscend s.identities → (row : IdentityRow) → In row (after s request).identities → has_row row.number s.identities ≡ true
    → (old : IdentityRow) × In old s.identities × (uncounted old ≡ uncounted row)
row_before s request ascend row there has =
    let now = (after s request).identities in
    let kept = subst (λ list. In (uncounted row) list) (sym (part_after s request ascend)) (map-In uncounted row now there) in
    let mid = In-map uncounted (uncounted row) (rows_taken s request) (In-filter (λ r. has_row r.number now) (uncounted row) (map uncounted (rows_taken s request)) kept).0 in
    let old = part-row s.identities (rows_taken s request) (part_before s request ascend) mid.0 mid.1 (subst (λ n. has_row n s.identities ≡ true) (sym (ap (λ r. r.number) mid.2)) has) in
    (old.0, old.1, old.2 ∙ mid.2)
