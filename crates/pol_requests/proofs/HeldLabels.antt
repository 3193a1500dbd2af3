-- A label set is held for an endpoint or a named identity: what is prepared so.
use Rattle.std.proofs.Common.{◌≡◌, ℕ, ◌+◌, ◌<◌, false, List, Option, None, Some, option_map, is_some, sym, ap, subst, ◌∙◌}
use Rattle.pol_addr.specs.declared.address.Addr.{Addr}
use Rattle.pol_addr.specs.Address.{IsAddr}
use Rattle.pol_labels.specs.declared.label.Label.{Label}
use Rattle.pol_labels.specs.Order.{IsLabelSet}
use Rattle.pol_rule.specs.declared.policy.Peer.{Peer}
use Rattle.pol_model.specs.declared.answer.Fault.TheVariants as fault
use Rattle.pol_model.specs.declared.request.Request.TheVariants.{AddEndpoint, AddIdentity}
use Rattle.pol_model.specs.declared.row.Endpoint.{Endpoint}
use Rattle.pol_model.specs.declared.row.NamedIdentity.{NamedIdentity}
use Rattle.pol_model.specs.declared.row.IdentityRow.{IdentityRow}
use Rattle.pol_model.specs.State.{State}
use Rattle.pol_model.specs.After.{new_endpoint}
use Rattle.pol_model.specs.Endpoints.{named_of}
use Rattle.pol_model.specs.Fault.{fault_if, has_reserved, is_exhausted}
use Rattle.pol_model.specs.Identities.{labels_held, number_for}
use Rattle.pol_selcache.specs.Cache.{Cache}
use Rattle.pol_selcache.specs.Live.{AreExact, Live}
use Rattle.pol_selcache.specs.Plan.{Plan}
use Rattle.pol_tables.specs.Tables.{number_named}
use Rattle.pol_allocator.specs.Held.{HoldsLabels, Prepares}
use Rattle.pol_peers.specs.References.{RefsOf}
use Rattle.pol_requests.specs.declared.prepared.TableChange.{TableChange}
use Rattle.pol_requests.specs.declared.prepared.TableChange.TheVariants as change
use Rattle.pol_store.specs.Parts.{numbers_of, with_numbers}
use Rattle.pol_requests.specs.Causes.{endpoint_fault}
use Rattle.pol_store.specs.Store.{Rooms, Stored, peers_of, with_rooms}
use Rattle.pol_requests.proofs.Faults.{endpoint_last}
use Rattle.pol_requests.proofs.Preparing.{IsPreparedHere}

-- the state with these rows of identities
abbrev pub with_rows : List IdentityRow → State → State
with_rows rows s = record s { identities = rows }

-- the endpoint with this number
abbrev pub with_identity : ℕ → Endpoint → Endpoint
with_identity number endpoint = record endpoint { identity = number }

-- a label set was held
module _ (labels : List Label) (rooms : Rooms) (old mid new : Stored) (mid_is : mid ≡ with_rooms rooms old) (number : ℕ) (plan : Plan)
    (held : HoldsLabels (mid.state.revision + 1) labels (numbers_of mid) (numbers_of new) number plan) (new_is : new ≡ with_numbers (numbers_of new) mid) where
  state_at : mid.state ≡ old.state
  state_at = ap (λ (stored : Stored). stored.state) mid_is

  rows_held : new.state.identities ≡ labels_held labels old.state.identities
  rows_held = held.rows ∙ ap (λ (s : State). labels_held labels s.identities) state_at

  pub held_state : new.state ≡ with_rows (labels_held labels old.state.identities) old.state
  held_state = ap (λ (stored : Stored). stored.state) new_is ∙ (λ i. with_rows (rows_held i) (state_at i))

  held_live : new.cache.live ≡ old.cache.live
  held_live = ap (λ (cache : Cache). cache.live) held.sets ∙ ap (λ (stored : Stored). stored.cache.live) mid_is

  pub held_refs : (peers : List Peer) → RefsOf peers old.cache.live → RefsOf peers new.cache.live
  held_refs peers refs = subst (λ (live : List Live). RefsOf peers live) (sym held_live) refs

  pub held_exact : (rows : List IdentityRow) → AreExact rows old.cache.live → AreExact rows new.cache.live
  held_exact rows exact = subst (λ (live : List Live). AreExact rows live) (sym held_live) exact

  pub held_plan : Prepares (old.state.revision + 1) (labels_held labels old.state.identities) new.cache plan
  held_plan =
      subst (λ (n : ℕ). Prepares (n + 1) (labels_held labels old.state.identities) new.cache plan) (ap (λ (s : State). s.revision) state_at)
      (subst (λ (rows : List IdentityRow). Prepares (mid.state.revision + 1) rows new.cache plan) rows_held held.plan_is)

  pub held_number : number ≡ number_for labels old.state.identities
  held_number = held.number_is ∙ ap (λ (s : State). number_for labels s.identities) state_at

  pub held_rooms : new.rooms ≡ rooms
  held_rooms = ap (λ (stored : Stored). stored.rooms) new_is ∙ ap (λ (stored : Stored). stored.rooms) mid_is

  -- for a new endpoint
  pub endpoint_prepared : (name : List ℕ) (address : Addr) (asked : TableChange) → IsLabelSet labels → IsAddr address
      → endpoint_fault old.state name labels address ≡ None → is_exhausted labels old.state.identities ≡ false → 0 < rooms.endpoints
      → asked ≡ change.Endpoint (with_identity number (new_endpoint mid.state name labels address)) name
      → IsPreparedHere (AddEndpoint name labels address) old new (record { plan = plan; change = asked })
  endpoint_prepared name address asked set within none room place its = record {
    valid = (set, within);
    no_fault = endpoint_last old.state name labels address none ∙ ap (λ b. fault_if b fault.IdentitiesExhausted None) room;
    short = tt;
    state = held_state;
    refs = held_refs (peers_of old.state.policies);
    exact = held_exact old.state.identities;
    plan = held_plan;
    change = its
        ∙ ap (λ (s : State). change.Endpoint (with_identity number (new_endpoint s name labels address)) name) state_at
        ∙ ap (λ n. change.Endpoint (with_identity n (new_endpoint old.state name labels address)) name) held_number;
    room = subst (λ (r : Rooms). 0 < r.endpoints) (sym held_rooms) place;
  }

  -- for a new named identity
  pub identity_prepared : (name : List ℕ) (asked : TableChange) → IsLabelSet labels → has_reserved labels ≡ false → number_named name old.state.named ≡ None
      → is_exhausted labels old.state.identities ≡ false → 0 < rooms.named → asked ≡ change.Named name number
      → IsPreparedHere (AddIdentity name labels) old new (record { plan = plan; change = asked })
  identity_prepared name asked set allowed fresh room place its = record {
    valid = set;
    no_fault = by (named_of name old.state.named) fresh;
    short = tt;
    state = held_state;
    refs = held_refs (peers_of old.state.policies);
    exact = held_exact old.state.identities;
    plan = held_plan;
    change = its ∙ ap (λ n. change.Named name n) held_number;
    room = subst (λ (r : Rooms). 0 < r.named) (sym held_rooms) place;
  }
    where
      by : (o : Option NamedIdentity) → option_map (λ identity. identity.number) o ≡ None
          → fault_if (has_reserved labels) fault.ReservedLabel (fault_if (is_some o) fault.DuplicateIdentityName (fault_if (is_exhausted labels old.state.identities) fault.IdentitiesExhausted None)) ≡ None
      by None is = λ i. fault_if (allowed i) fault.ReservedLabel (fault_if (room i) fault.IdentitiesExhausted None)
      by (Some identity) is = absurd cc
