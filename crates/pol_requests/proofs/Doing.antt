-- A request that is under way is done: what its change makes of the store.
use Rattle.std.proofs.Common.{◌≡◌, ℕ, ◌+◌, ◌<◌, ◌≤◌, true, false, List, Option, None, Some, option_map, refl, sym, ap, subst, ◌∙◌}
use Rattle.pol_data.proofs.Members.{every-in}
use Rattle.pol_rule.specs.declared.policy.Peer.{Peer}
use Rattle.pol_model.specs.declared.limits.TheConstants.{ENDPOINTS_MAX}
use Rattle.pol_model.specs.declared.request.Request.{Request}
use Rattle.pol_model.specs.declared.request.Request.TheVariants.{AddEndpoint, RemoveEndpoint, AddIdentity, RemoveIdentity, Apply, Remove, SetMode}
use Rattle.pol_model.specs.declared.row.Endpoint.{Endpoint}
use Rattle.pol_model.specs.declared.row.IdentityRow.{IdentityRow}
use Rattle.pol_model.specs.State.{State}
use Rattle.pol_model.specs.After.{after, new_endpoint}
use Rattle.pol_model.specs.Endpoints.{endpoint_of, free_slot, without_endpoint}
use Rattle.pol_model.specs.Identities.{is_local, number_released, released}
use Rattle.pol_model.specs.Numbers.{placed_by}
use Rattle.pol_model.specs.Remote.{endpoint_at}
use Rattle.pol_model_laws.specs.Holding.{has_row}
use Rattle.pol_model_laws.specs.Keeps.{IsLiveIn, Keeps}
use Rattle.pol_model_laws.proofs.Keyed.{placed-here}
use Rattle.pol_model_laws.proofs.StateLaws.{keeps-after}
use Rattle.pol_set_changes.specs.Log.{newest}
use Rattle.pol_selcache.specs.Cache.{Cache}
use Rattle.pol_selcache.specs.Live.{AreExact}
use Rattle.pol_tables.specs.Tables.{number_named}
use Rattle.pol_peers.specs.References.{RefsOf}
use Rattle.pol_requests.specs.declared.prepared.TableChange.TheVariants as change
use Rattle.pol_store.specs.Parts.{numbers_of, with_numbers}
use Rattle.pol_store.specs.Store.{IsLike, StandsFor, Stored, peers_of, peers_with}
use Rattle.pol_requests.specs.Prepared.{Changes, IsUnderWay, MayChange, change_for, or_none}
use Rattle.pol_requests.proofs.ChangeParts.{differ, endpoint_of_change, name_of_change, number_of_change}
use Rattle.pol_requests.proofs.Faults.{endpoint_there, may_be_added}
use Rattle.pol_requests.proofs.LiveNumbers.{MayGo, live_number}

-- where the selectors stay as they were, and no policy comes or goes
pub done : (s : State) (request : Request) (old new : Stored) → IsUnderWay s request old → new.cache ≡ old.cache → peers_with s request ≡ peers_of (after s request).policies
    → IsLike (after s request) new.state → StandsFor (after s request) new
done s request old new under same peers like = record {
  like = like;
  refs = subst (λ (ps : List Peer). RefsOf ps new.cache.live) peers (subst (λ (cache : Cache). RefsOf (peers_with s request) cache.live) (sym same) under.refs);
  exact = subst (λ (cache : Cache). AreExact (after s request).identities cache.live) (sym same) under.exact;
  newest = subst (λ (cache : Cache). newest cache.log ≤ s.revision + 1) (sym same) under.newest;
}

-- ---- an endpoint comes
-- what its row asks of the table
pub record MayStand (endpoint : Endpoint) (name : List ℕ) (stored : Stored) : Type 0 where
  pub room : 0 < stored.rooms.endpoints
  pub name_is : name ≡ endpoint.name
  pub new_name : endpoint_of endpoint.name stored.state.endpoints ≡ None
  pub new_address : endpoint_at endpoint.address stored.state.endpoints ≡ None
  pub slot : endpoint.slot ≡ free_slot stored.state.endpoints
  pub within : endpoint.slot < ENDPOINTS_MAX

endpoint_stands : (endpoint : Endpoint) (name : List ℕ) (old : Stored) (s : State) (request : Request) → Keeps s → IsUnderWay s request old → change.Endpoint endpoint name ≡ change_for s request
    → MayStand endpoint name old
endpoint_stands endpoint name old s (AddEndpoint n labels address) keeps under asked =
    let its : endpoint ≡ new_endpoint s n labels address = ap (endpoint_of_change endpoint) asked in
    let own : name ≡ n = ap (name_of_change name) asked in
    let new = new_endpoint s n labels address in
    let may = may_be_added s n labels address under.may.no_fault in
    let later = keeps-after s (AddEndpoint n labels address) keeps under.may in
    let live = every-in (IsLiveIn (after s (AddEndpoint n labels address))) _ later.endpoints new (placed-here (λ (e : Endpoint). e.slot) new s.endpoints) in
    record {
      room = under.room;
      name_is = own ∙ sym (ap (λ (e : Endpoint). e.name) its);
      new_name = (λ i. endpoint_of (its i).name (under.like.endpoints i)) ∙ may.new_name;
      new_address = (λ i. endpoint_at (its i).address (under.like.endpoints i)) ∙ may.new_address;
      slot = ap (λ (e : Endpoint). e.slot) its ∙ ap free_slot (sym under.like.endpoints);
      within = subst (λ (e : Endpoint). e.slot < ENDPOINTS_MAX) (sym its) live.slot;
    }
endpoint_stands endpoint name old s (RemoveEndpoint n) keeps under asked = absurd (differ _ _ asked refl)
endpoint_stands endpoint name old s (AddIdentity n labels) keeps under asked = absurd (differ _ _ asked refl)
endpoint_stands endpoint name old s (RemoveIdentity n) keeps under asked = absurd (differ _ _ asked refl)
endpoint_stands endpoint name old s (Apply policy) keeps under asked = absurd (differ _ _ asked refl)
endpoint_stands endpoint name old s (Remove key) keeps under asked = absurd (differ _ _ asked refl)
endpoint_stands endpoint name old s (SetMode mode) keeps under asked = absurd (differ _ _ asked refl)

pub endpoint_may_stand : (endpoint : Endpoint) (name : List ℕ) (old : Stored) → MayChange old (change.Endpoint endpoint name) → MayStand endpoint name old
endpoint_may_stand endpoint name old may = endpoint_stands endpoint name old may.state may.request may.keeps may.under_way may.asked

pub endpoint_placed : (endpoint : Endpoint) (name : List ℕ) (old new : Stored)
    → new ≡ record old { state = record old.state { endpoints = placed_by (λ (e : Endpoint). e.slot) endpoint old.state.endpoints }; rooms = new.rooms }
    → Changes old (change.Endpoint endpoint name) new
endpoint_placed endpoint name old new is s (AddEndpoint n labels address) keeps under asked =
    let its : endpoint ≡ new_endpoint s n labels address = ap (endpoint_of_change endpoint) asked in
    let like = under.like in
    done s (AddEndpoint n labels address) old new under (ap (λ (stored : Stored). stored.cache) is) refl
    (record {
      revision = ap (λ (stored : Stored). stored.state.revision) is ∙ like.revision;
      mode = ap (λ (stored : Stored). stored.state.mode) is ∙ like.mode;
      identities = ap (λ (stored : Stored). stored.state.identities) is ∙ like.identities;
      named = λ other. ap (λ (stored : Stored). number_named other stored.state.named) is ∙ like.named other;
      policies = ap (λ (stored : Stored). stored.state.policies) is ∙ like.policies;
      endpoints = ap (λ (stored : Stored). stored.state.endpoints) is ∙ (λ i. placed_by (λ (e : Endpoint). e.slot) (its i) (like.endpoints i));
    })
endpoint_placed endpoint name old new is s (RemoveEndpoint n) keeps under asked = absurd (differ _ _ asked refl)
endpoint_placed endpoint name old new is s (AddIdentity n labels) keeps under asked = absurd (differ _ _ asked refl)
endpoint_placed endpoint name old new is s (RemoveIdentity n) keeps under asked = absurd (differ _ _ asked refl)
endpoint_placed endpoint name old new is s (Apply policy) keeps under asked = absurd (differ _ _ asked refl)
endpoint_placed endpoint name old new is s (Remove key) keeps under asked = absurd (differ _ _ asked refl)
endpoint_placed endpoint name old new is s (SetMode mode) keeps under asked = absurd (differ _ _ asked refl)

-- ---- an endpoint goes
-- its number, where it is there
pub number_there : {X : Type 0} (number_of : X → ℕ) (o : Option X) (x : X) → o ≡ Some x → or_none (option_map number_of o) ≡ number_of x
number_there {X} number_of o x is = ap (λ (p : Option X). or_none (option_map number_of p)) is

pub number_goes : (number : ℕ) (s : State) (rows : List IdentityRow) (own : ℕ) → MayGo own s → number ≡ own → rows ≡ s.identities → (has_row number rows ≡ true) × (is_local number ≡ false)
number_goes number s rows own go same at = ((λ i. has_row (same i) (at i)) ∙ go.held, ap is_local same ∙ go.not_local)

endpoint_number_goes : (name : List ℕ) (number : ℕ) (old : Stored) (s : State) (request : Request) → Keeps s → IsUnderWay s request old → change.NoEndpoint name number ≡ change_for s request
    → (has_row number old.state.identities ≡ true) × (is_local number ≡ false)
endpoint_number_goes name number old s (RemoveEndpoint n) keeps under asked =
    let there = endpoint_there s n under.may.no_fault in
    let told : number ≡ or_none (option_map (λ (e : Endpoint). e.identity) (endpoint_of n s.endpoints)) = ap (number_of_change number) asked in
    number_goes number s old.state.identities there.0.identity (live_number s keeps n there.0 there.1)
    (told ∙ number_there (λ (e : Endpoint). e.identity) (endpoint_of n s.endpoints) there.0 there.1) under.like.identities
endpoint_number_goes name number old s (AddEndpoint n labels address) keeps under asked = absurd (differ _ _ asked refl)
endpoint_number_goes name number old s (AddIdentity n labels) keeps under asked = absurd (differ _ _ asked refl)
endpoint_number_goes name number old s (RemoveIdentity n) keeps under asked = absurd (differ _ _ asked refl)
endpoint_number_goes name number old s (Apply policy) keeps under asked = absurd (differ _ _ asked refl)
endpoint_number_goes name number old s (Remove key) keeps under asked = absurd (differ _ _ asked refl)
endpoint_number_goes name number old s (SetMode mode) keeps under asked = absurd (differ _ _ asked refl)

pub endpoint_may_go : (name : List ℕ) (number : ℕ) (old : Stored) → MayChange old (change.NoEndpoint name number) → (has_row number old.state.identities ≡ true) × (is_local number ≡ false)
endpoint_may_go name number old may = endpoint_number_goes name number old may.state may.request may.keeps may.under_way may.asked

-- the rows once its number is released
pub number_gone : {X : Type 0} (number_of : X → ℕ) (o : Option X) (x : X) (number : ℕ) (rows : List IdentityRow) → o ≡ Some x → number ≡ or_none (option_map number_of o)
    → released number rows ≡ number_released (option_map number_of o) rows
number_gone {X} number_of o x number rows is told =
    ap (λ n. released n rows) (told ∙ number_there number_of o x is) ∙ sym (ap (λ (p : Option X). number_released (option_map number_of p) rows) is)

pub endpoint_gone : (name : List ℕ) (number : ℕ) (old mid new : Stored)
    → mid ≡ record old { state = record old.state { endpoints = without_endpoint name old.state.endpoints }; rooms = mid.rooms }
    → new ≡ with_numbers (record (numbers_of mid) { rows = released number mid.state.identities }) mid
    → Changes old (change.NoEndpoint name number) new
endpoint_gone name number old mid new mid_is is s (RemoveEndpoint n) keeps under asked =
    let there = endpoint_there s n under.may.no_fault in
    let told : number ≡ or_none (option_map (λ (e : Endpoint). e.identity) (endpoint_of n s.endpoints)) = ap (number_of_change number) asked in
    let own : name ≡ n = ap (name_of_change name) asked in
    let like = under.like in
    let middle : State → State = λ t. record t { identities = released number t.identities } in
    let state : new.state ≡ record old.state { endpoints = without_endpoint name old.state.endpoints; identities = released number old.state.identities } =
    ap (λ (stored : Stored). stored.state) is ∙ ap (λ (stored : Stored). middle stored.state) mid_is in
    done s (RemoveEndpoint n) old new under (ap (λ (stored : Stored). stored.cache) is ∙ ap (λ (stored : Stored). stored.cache) mid_is) refl
    (record {
      revision = ap (λ (t : State). t.revision) state ∙ like.revision;
      mode = ap (λ (t : State). t.mode) state ∙ like.mode;
      identities = ap (λ (t : State). t.identities) state ∙ ap (released number) like.identities
          ∙ number_gone (λ (e : Endpoint). e.identity) (endpoint_of n s.endpoints) there.0 number s.identities there.1 told;
      named = λ other. ap (λ (t : State). number_named other t.named) state ∙ like.named other;
      policies = ap (λ (t : State). t.policies) state ∙ like.policies;
      endpoints = ap (λ (t : State). t.endpoints) state ∙ (λ i. without_endpoint (own i) (like.endpoints i));
    })
endpoint_gone name number old mid new mid_is is s (AddEndpoint n labels address) keeps under asked = absurd (differ _ _ asked refl)
endpoint_gone name number old mid new mid_is is s (AddIdentity n labels) keeps under asked = absurd (differ _ _ asked refl)
endpoint_gone name number old mid new mid_is is s (RemoveIdentity n) keeps under asked = absurd (differ _ _ asked refl)
endpoint_gone name number old mid new mid_is is s (Apply policy) keeps under asked = absurd (differ _ _ asked refl)
endpoint_gone name number old mid new mid_is is s (Remove key) keeps under asked = absurd (differ _ _ asked refl)
endpoint_gone name number old mid new mid_is is s (SetMode mode) keeps under asked = absurd (differ _ _ asked refl)
