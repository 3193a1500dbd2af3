-- The endpoints of a legal history's states: each is found by its name and by its slot.
use Rattle.std.proofs.Common.{◌≡◌, ℕ, ◌==◌, not, List, [], ◌∷◌, ◌++◌, map, count_by, nat_lt, append-nil, Some, None, refl, sym, ap, ◌∙◌, subst, bytes_eq}
use Rattle.std.specs.Cmp.Lexicographic.{bytes_decides}
use Rattle.std.specs.List.{IsDistinct}
use Rattle.pol_data.proofs.Members.{In}
use Rattle.pol_model.specs.After.{after, new_endpoint, state_of}
use Rattle.pol_model.specs.Fault.{fault_of}
use Rattle.pol_model.specs.State.{State}
use Rattle.pol_model.specs.declared.options.Options.{Options}
use Rattle.pol_model.specs.declared.request.Request.{Request}
use Rattle.pol_model.specs.declared.request.Request.TheVariants.{AddEndpoint, RemoveEndpoint, AddIdentity, RemoveIdentity, Apply, Remove, SetMode}
use Rattle.pol_model.specs.declared.row.Endpoint.{Endpoint}
use Rattle.pol_model.proofs.AscendingStates.{state_slots_ascend}
use Rattle.pol_model.proofs.Histories.{state_of-push}
use Rattle.pol_model_laws.proofs.Distinct.{differ_filtered, differ_inserted, found_by_key}
use Rattle.pol_model_laws.proofs.Keyed.{found_by_number, one_of_number}
use Rattle.pol_model_laws.proofs.Membership.{find-In}
use Rattle.pol_model_laws.proofs.NoFault.{add_endpoint}
use Rattle.pol_history.specs.declared.event.EndpointId.{EndpointId}
use Rattle.pol_history.specs.declared.event.HistoryEvent.{HistoryEvent}
use Rattle.pol_history.specs.declared.event.HistoryEvent.TheVariants as event
use Rattle.pol_history.specs.Commits.{commits_in, live_endpoint, state_now}
use Rattle.pol_history.specs.Legal.{IsLegal}
use Rattle.pol_history.specs.Machine.{endpoint_id, endpoint_in}
use Rattle.pol_history.specs.MayFollow.{MayFollow}
use Rattle.pol_history.proofs.Cuts.{commits-append}
use Rattle.pol_history.proofs.LegalEvents.{legal_front, legal_last}
use Rattle.pol_history.proofs.Lists.{by_growth}
use Rattle.pol_history.proofs.Same.{live-parts, live-whole}

abbrev NamesDiffer : State → Type 0
NamesDiffer s = IsDistinct bytes_eq (map (λ row. row.name) s.endpoints)

names_after : (s : State) (request : Request) → fault_of s request ≡ None → NamesDiffer s → NamesDiffer (after s request)
names_after s (AddEndpoint name labels address) none differ =
    let new = new_endpoint s name labels address in
    differ_inserted (λ row. row.name) bytes_decides new (count_by (λ row. nat_lt row.slot new.slot) s.endpoints) s.endpoints
    (add_endpoint s name labels address none).name_free differ
names_after s (RemoveEndpoint name) none differ = differ_filtered (λ row. row.name) bytes_decides (λ row. not (bytes_eq row.name name)) s.endpoints differ
names_after s (AddIdentity name labels) none differ = differ
names_after s (RemoveIdentity name) none differ = differ
names_after s (Apply policy) none differ = differ
names_after s (Remove key) none differ = differ
names_after s (SetMode mode) none differ = differ

-- the state after one commit more
pub state-more : (options : Options) (history : List HistoryEvent) (pass number : ℕ) (request : Request)
    → state_now options (history ++ event.Commit pass number request ∷ []) ≡ after (state_now options history) request
state-more options history pass number request =
    ap (λ (requests : List Request). state_of options requests) (commits-append history (event.Commit pass number request ∷ []))
    ∙ state_of-push options (commits_in history) request

names_more : (options : Options) (history : List HistoryEvent) (new : HistoryEvent) → MayFollow options history new → NamesDiffer (state_now options history)
    → NamesDiffer (state_now options (history ++ new ∷ []))
names_more options history (event.Commit pass number request) may differ =
    subst NamesDiffer (sym (state-more options history pass number request)) (names_after (state_now options history) request may.no_fault differ)
names_more options history (event.Publish endpoint revision table) may differ =
    subst (λ (requests : List Request). NamesDiffer (state_of options requests)) (sym (commits-append history (event.Publish endpoint revision table ∷ []) ∙ append-nil (commits_in history))) differ
names_more options history (event.Blocked endpoint revision count) may differ =
    subst (λ (requests : List Request). NamesDiffer (state_of options requests)) (sym (commits-append history (event.Blocked endpoint revision count ∷ []) ∙ append-nil (commits_in history))) differ

nothing : IsDistinct bytes_eq []
unfolding IsDistinct
nothing = tt

names_differ : (options : Options) (history : List HistoryEvent) → IsLegal options history → NamesDiffer (state_now options history)
names_differ options =
    by_growth (λ (h : List HistoryEvent). IsLegal options h → NamesDiffer (state_now options h)) (λ legal. nothing)
    (λ h new so_far legal. names_more options h new (legal_last options h new legal) (so_far (legal_front options h (new ∷ []) legal)))

-- ---- what is found

module _ (options : Options) (history : List HistoryEvent) where
  -- a live endpoint has its slot alone
  pub slot-found : (row : Endpoint) → In row (state_now options history).endpoints → endpoint_in row.slot (state_now options history).endpoints ≡ Some row
  slot-found row there =
      found_by_number (λ (r : Endpoint). r.slot) row (state_now options history).endpoints (state_slots_ascend options (commits_in history)) there

  pub one_in_slot : (a b : Endpoint) → In a (state_now options history).endpoints → In b (state_now options history).endpoints → a.slot ≡ b.slot → a ≡ b
  one_in_slot a b first second same =
      one_of_number (λ (r : Endpoint). r.slot) a b (state_now options history).endpoints (state_slots_ascend options (commits_in history)) first second same

  pub live-in : (endpoint : EndpointId) (row : Endpoint) → live_endpoint endpoint (state_now options history) ≡ Some row → In row (state_now options history).endpoints
  live-in endpoint row live =
      (find-In (λ (r : Endpoint). bytes_eq r.name endpoint.name) row (state_now options history).endpoints
      (live-parts endpoint (state_now options history) row live).0).0

  -- an endpoint's row tells which endpoint it is
  pub live-id : (endpoint : EndpointId) (row : Endpoint) → live_endpoint endpoint (state_now options history) ≡ Some row → endpoint_id row ≡ endpoint
  live-id endpoint row live =
      let both = live-parts endpoint (state_now options history) row live in
      let passes = (find-In (λ (r : Endpoint). bytes_eq r.name endpoint.name) row (state_now options history).endpoints both.0).1 in
      let name : row.name ≡ endpoint.name = (bytes_decides row.name endpoint.name).0 passes in
      let added : row.added ≡ endpoint.added = both.1 in
      λ i. record { name = name i; added = added i }

  -- the endpoint in a slot is live
  pub slot-live : IsLegal options history → (slot : ℕ) (row : Endpoint) → endpoint_in slot (state_now options history).endpoints ≡ Some row
      → live_endpoint (endpoint_id row) (state_now options history) ≡ Some row
  slot-live legal slot row found =
      let there = (find-In (λ (r : Endpoint). r.slot == slot) row (state_now options history).endpoints found).0 in
      live-whole (endpoint_id row) (state_now options history) row
      (found_by_key (λ (r : Endpoint). r.name) bytes_decides row (state_now options history).endpoints (names_differ options history legal) there) refl
