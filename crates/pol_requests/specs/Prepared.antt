-- What a request that is prepared has taken, and what it will do.
use Rattle.std.specs.Prelude.{ℕ, Bool, true, false, ◌≡◌, ◌+◌, ◌<◌, ◌≤◌, Option, Some, option_map, Result, IfOk, IfErr, OnErr}
use Rattle.std.specs.Option.{option_map_or}
use Rattle.pol_rule.specs.Prefixes.{policy_prefixes}
use Rattle.pol_model.specs.declared.request.Request.{Request}
use Rattle.pol_model.specs.declared.request.Request.TheVariants.{AddEndpoint, RemoveEndpoint, AddIdentity, RemoveIdentity, Apply, Remove, SetMode}
use Rattle.pol_model.specs.State.{State}
use Rattle.pol_model.specs.After.{after, new_endpoint}
use Rattle.pol_model.specs.Fault.{fault_of}
use Rattle.pol_model.specs.Sizes.{IsShort}
use Rattle.pol_model.specs.Endpoints.{endpoint_of, named_of}
use Rattle.pol_model.specs.Identities.{number_for}
use Rattle.pol_model.specs.Policies.{policy_at, prefixes_of}
use Rattle.pol_model_laws.specs.Holding.{rows_taken}
use Rattle.pol_model_laws.specs.Keeps.{Keeps}
use Rattle.pol_model_laws.specs.WithoutFaults.{MayCommit}
use Rattle.pol_set_changes.specs.Log.{newest}
use Rattle.pol_selcache.specs.Live.{AreExact}
use Rattle.pol_allocator.specs.Held.{Prepares}
use Rattle.pol_peers.specs.References.{RefsOf}
use Rattle.pol_requests.specs.declared.prepared.TableChange.{TableChange}
use Rattle.pol_requests.specs.declared.prepared.TableChange.TheVariants as change
use Rattle.pol_requests.specs.declared.prepared.Prepared.{Prepared}
use Rattle.pol_requests.specs.declared.error.PrepareError.{PrepareError}
use Rattle.pol_requests.specs.declared.error.PrepareError.TheVariants.{Fault, Memory}
use Rattle.pol_store.specs.Store.{IsLike, Rooms, StandsFor, Stored, peers_with}

-- the number, or 0 where there is none
abbrev pub or_none : Option ℕ → ℕ
or_none number = option_map_or (λ n. n) number 0

-- what the request does to the tables of the state
abbrev pub change_for : State → Request → TableChange
change_for s (AddEndpoint name labels address) = change.Endpoint (new_endpoint s name labels address) name
change_for s (RemoveEndpoint name) = change.NoEndpoint name (or_none (option_map (λ endpoint. endpoint.identity) (endpoint_of name s.endpoints)))
change_for s (AddIdentity name labels) = change.Named name (number_for labels s.identities)
change_for s (RemoveIdentity name) = change.NotNamed name (or_none (option_map (λ identity. identity.number) (named_of name s.named)))
change_for s (Apply policy) =
    change.Policy (record { policy = policy; stamp = s.revision + 1 }) policy.key (policy_prefixes policy) (prefixes_of (policy_at policy.key s.policies))
change_for s (Remove key) = change.NoPolicy key (prefixes_of (policy_at key s.policies))
change_for s (SetMode mode) = change.Mode mode

-- the tables have room for what the request adds
abbrev pub HasRoom : Request → Rooms → Type 0
HasRoom (AddEndpoint name labels address) rooms = 0 < rooms.endpoints
HasRoom (AddIdentity name labels) rooms = 0 < rooms.named
HasRoom (Apply policy) rooms = 0 < rooms.policies
HasRoom _ rooms = Unit {0}

-- The request is prepared in the state: it may commit, what it holds is held and what it gives up is held still, the
-- sets are as before, and the plan makes them exact for the state after it.
pub record IsPrepared (s : State) (request : Request) (stored : Stored) (prepared : Prepared) : Type 0 where
  pub may : MayCommit s request
  pub short : IsShort request
  pub like : IsLike (record s { identities = rows_taken s request }) stored.state
  pub refs : RefsOf (peers_with s request) stored.cache.live
  pub exact : AreExact s.identities stored.cache.live
  pub plan : Prepares (s.revision + 1) (after s request).identities stored.cache prepared.plan
  pub change : prepared.change ≡ change_for s request
  pub room : HasRoom request stored.rooms

-- why a request isn't prepared: its fault in the state, or want of memory
abbrev pub IsCause : State → Request → PrepareError → Type 0
IsCause s request (Fault fault) = fault_of s request ≡ Some fault
IsCause s request Memory = Unit {0}

-- In each state that the store stands for, the request is prepared; or it isn't, for its cause, and the store stands
-- for the state as before.
abbrev pub PreparesOrNot : Request → Stored → Stored → Result Prepared PrepareError → Type 0
PreparesOrNot request old new result =
    (s : State) → Keeps s → StandsFor s old
    → IfOk result (IsPrepared s request new) × OnErr result (StandsFor s new) × IfErr result (IsCause s request)

-- some request is prepared in some state that keeps what each state keeps
pub record CanBeDone (stored : Stored) (prepared : Prepared) : Type 0 where
  pub state : State
  pub keeps : Keeps state
  pub request : Request
  pub is_prepared : IsPrepared state request stored prepared

-- whether the request is of a policy; no other one judges peers that are new
abbrev pub is_of_policy : Request → Bool
is_of_policy (Apply policy) = true
is_of_policy (Remove key) = true
is_of_policy _ = false

-- The request is under way: the revision is raised and the sets are exact for the state after it, but the tables and
-- the holders are as they were when it was prepared.
pub record IsUnderWay (s : State) (request : Request) (stored : Stored) : Type 0 where
  pub may : MayCommit s request
  pub short : IsShort request
  pub like : IsLike (record s { identities = rows_taken s request; revision = s.revision + 1 }) stored.state
  pub refs : RefsOf (peers_with s request) stored.cache.live
  pub exact : AreExact (after s request).identities stored.cache.live
  pub newest : newest stored.cache.log ≤ s.revision + 1
  pub room : HasRoom request stored.rooms

-- some request that is under way asks for this change
pub record MayChange (stored : Stored) (change : TableChange) : Type 0 where
  pub state : State
  pub keeps : Keeps state
  pub request : Request
  pub under_way : IsUnderWay state request stored
  pub asked : change ≡ change_for state request

-- the change does each request under way that asks for it
abbrev pub Changes : Stored → TableChange → Stored → Type 0
Changes old change new =
    (s : State) (request : Request) → Keeps s → IsUnderWay s request old → change ≡ change_for s request
    → StandsFor (after s request) new

-- each prepared request that asks for this change is taken back
abbrev pub TakesBack : Stored → Prepared → Stored → Type 0
TakesBack old prepared new =
    (s : State) (request : Request) → Keeps s → IsPrepared s request old prepared → StandsFor s new
