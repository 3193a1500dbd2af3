-- A policy's request, step by step: what is prepared, and what is given back where it isn't.
use Rattle.std.proofs.Common.{◌≡◌, ℕ, ◌+◌, ◌<◌, ◌≤◌, Bool, true, false, List, ◌++◌, nat_lt, Option, None, Some, Result, Err, refl, sym, ap, subst, ◌∙◌, arith}
use Rattle.std.specs.List.{AllByRecursion, IsDistinct}
use Rattle.std.proofs.lemmas.Bool.{lt-ltb, ltb-true}
use Rattle.pol_addr.specs.Cidr.{IsPrefix}
use Rattle.pol_addr.specs.declared.network.Prefix.{Prefix}
use Rattle.pol_addr.specs.Prefix.{same_prefix}
use Rattle.pol_data.proofs.Members.{every-in}
use Rattle.pol_rule.specs.declared.policy.Peer.{Peer}
use Rattle.pol_rule.specs.declared.policy.Policy.{Policy}
use Rattle.pol_rule.specs.declared.policy.PolicyKey.{PolicyKey}
use Rattle.pol_rule.specs.Prefixes.{policy_prefixes}
use Rattle.pol_model.specs.declared.answer.Fault.TheVariants.{LocalExhausted}
use Rattle.pol_model.specs.declared.limits.TheConstants.{LOCAL_IDENTITIES}
use Rattle.pol_model.specs.declared.answer.Fault.{Fault as OneFault}
use Rattle.pol_model.specs.declared.request.Request.{Request}
use Rattle.pol_model.specs.declared.request.Request.TheVariants.{Apply}
use Rattle.pol_model.specs.declared.row.IdentityRow.{IdentityRow}
use Rattle.pol_model.specs.declared.row.Stamped.{Stamped}
use Rattle.pol_model.specs.State.{State}
use Rattle.pol_model.specs.Fault.{fault_if, fault_of, locals_held, locals_wanted}
use Rattle.pol_model.specs.Policies.{is_of_key, policy_at, prefixes_of}
use Rattle.pol_model.specs.Prefixes.{prefixes_held, prefixes_released}
use Rattle.pol_model.specs.Sizes.{IsShortPolicy}
use Rattle.pol_model_laws.specs.Holding.{is_held}
use Rattle.pol_model_laws.specs.Keeps.{IsInForceIn, Keeps}
use Rattle.pol_model_laws.proofs.Membership.{find-In}
use Rattle.pol_model_laws.proofs.PolicyHolders.{policy_differ}
use Rattle.pol_ident.specs.declared.error.IdentError.{IdentError}
use Rattle.pol_ident.specs.declared.error.IdentError.TheVariants as ident
use Rattle.pol_set_changes.specs.Log.{newest}
use Rattle.pol_selcache.specs.Cache.{Cache, with_room}
use Rattle.pol_selcache.specs.Live.{AreExact}
use Rattle.pol_selcache.specs.Plan.{Plan}
use Rattle.pol_rule.specs.Listed.{listed_peers}
use Rattle.pol_peers.specs.Numbering.{GainsRefs, LosesRefs}
use Rattle.pol_peers.specs.References.{HasRefs, IsMoreBy, RefsOf}
use Rattle.pol_peers.proofs.Counts.{has_more, refs_held, undone}
use Rattle.pol_allocator.specs.Held.{AreApart, Prepares}
use Rattle.pol_allocator.proofs.Apart.{apart_where_held}
use Rattle.pol_requests.specs.declared.prepared.TableChange.TheVariants as change
use Rattle.pol_requests.specs.declared.error.PrepareError.TheVariants.{Fault, Memory}
use Rattle.pol_store.specs.PolicyParts.{with_cache, with_rows}
use Rattle.pol_requests.specs.Causes.{policy_error}
use Rattle.pol_requests.specs.Prepared.{PreparesOrNot}
use Rattle.pol_store.specs.Store.{IsLike, StandsFor, StandsForSome, Stored, peers_of, with_rooms}
use Rattle.pol_requests.proofs.Likeness.{like_fault}
use Rattle.pol_requests.proofs.Preparing.{IsPreparedHere, as_before, refused}

-- The policy's peers have references and there is room for it; else all is as before.
pub record RefersHere (policy : Policy) (old new : Stored) : Type 0 where
  pub state : new.state ≡ old.state
  pub more : IsMoreBy (listed_peers policy) old.cache.live new.cache.live
  pub exact : AreExact old.state.identities new.cache.live
  pub newest : newest new.cache.log ≡ newest old.cache.log
  pub room : 0 < new.rooms.policies

pub refers_here : (policy : Policy) (old reserved referred : Stored) → reserved ≡ with_rooms reserved.rooms old → 0 < reserved.rooms.policies → referred ≡ with_cache referred.cache reserved
    → IsMoreBy (listed_peers policy) reserved.cache.live referred.cache.live → GainsRefs reserved.state.identities reserved.cache referred.cache → RefersHere policy old referred
refers_here policy old reserved referred same room same_too more gains = record {
  state = ap (λ (t : Stored). t.state) same_too ∙ ap (λ (t : Stored). t.state) same;
  more = subst (λ (t : Stored). IsMoreBy (listed_peers policy) t.cache.live referred.cache.live) same more;
  exact = subst (λ (t : Stored). AreExact t.state.identities referred.cache.live) same gains.exact;
  newest = ap newest gains.log ∙ ap (λ (t : Stored). newest t.cache.log) same;
  room = subst (λ (t : Stored). 0 < t.rooms.policies) (sym same_too) room;
}

-- The store stands for what it stood for, though selectors may have come and gone.
pub record IsStill (old new : Stored) : Type 0 where
  pub state : new.state ≡ old.state
  pub refs : (peers : List Peer) → RefsOf peers old.cache.live → RefsOf peers new.cache.live
  pub exact : AreExact old.state.identities new.cache.live
  pub newest : newest new.cache.log ≡ newest old.cache.log

stands_still : (s : State) (old new : Stored) → IsStill old new → StandsFor s old → StandsFor s new
stands_still s old new still stands = record {
  like = subst (IsLike s) (sym still.state) stands.like;
  refs = still.refs (peers_of s.policies) stands.refs;
  exact = subst (λ (rows : List IdentityRow). AreExact rows new.cache.live) stands.like.identities still.exact;
  newest = subst (λ (n : ℕ). n ≤ s.revision) (sym still.newest) stands.newest;
}

pub still_without_memory : (request : Request) (old new : Stored) → IsStill old new → PreparesOrNot request old new (Err Memory)
still_without_memory request old new still s keeps stands = (tt, stands_still s old new still stands, tt)

still_refused : (policy : Policy) (old new : Stored) (fault : OneFault) → IsStill old new → fault_of old.state (Apply policy) ≡ Some fault → PreparesOrNot (Apply policy) old new (Err (Fault fault))
still_refused policy old new fault still is s keeps stands =
    (tt, stands_still s old new still stands, sym (like_fault s old.state stands.like (Apply policy)) ∙ is)

-- ---- what holding the prefixes asks
pub once_each : (o : Option Stamped) → IsDistinct same_prefix (prefixes_of o)
unfolding IsDistinct
once_each None = tt
once_each (Some stamped) = policy_differ stamped.policy

all_held : (s : State) → Keeps s → (key : PolicyKey) → AllByRecursion (λ prefix. is_held prefix s.identities ≡ true) (prefixes_of (policy_at key s.policies))
all_held s keeps key = by (policy_at key s.policies) refl
  where
    by : (o : Option Stamped) → policy_at key s.policies ≡ o → AllByRecursion (λ prefix. is_held prefix s.identities ≡ true) (prefixes_of o)
    by None is = tt
    by (Some stamped) is = (every-in (IsInForceIn s) s.policies keeps.policies stamped (find-In (is_of_key key) stamped s.policies is).0).held

pub given_up_apart : (taken : List Prefix) (key : PolicyKey) (stored : Stored) → StandsForSome stored → AreApart taken (prefixes_of (policy_at key stored.state.policies)) stored.state.identities
given_up_apart taken key stored settled =
    let s = settled.state in
    let like = settled.stands.like in
    subst (λ (policies : List Stamped). AreApart taken (prefixes_of (policy_at key policies)) stored.state.identities) (sym like.policies)
    (subst (λ (rows : List IdentityRow). AreApart taken (prefixes_of (policy_at key s.policies)) rows) (sym like.identities)
    (apart_where_held taken (prefixes_of (policy_at key s.policies)) s.identities settled.keeps.identities (all_held s settled.keeps key)))

pub may_give_up : (taken given_up : List Prefix) (key : PolicyKey) (old reserved referred : Stored) → StandsForSome old → reserved ≡ with_rooms reserved.rooms old → referred ≡ with_cache referred.cache reserved
    → given_up ≡ prefixes_of (policy_at key reserved.state.policies) → AreApart taken given_up referred.state.identities
may_give_up taken given_up key old reserved referred settled same same_too is =
    let first : reserved.state ≡ old.state = ap (λ (t : Stored). t.state) same in
    let second : referred.state ≡ old.state = ap (λ (t : Stored). t.state) same_too ∙ first in
    let given : given_up ≡ prefixes_of (policy_at key old.state.policies) = is ∙ ap (λ (t : State). prefixes_of (policy_at key t.policies)) first in
    subst (λ (t : State). AreApart taken given_up t.identities) (sym second)
    (subst (λ (gs : List Prefix). AreApart taken gs old.state.identities) (sym given) (given_up_apart taken key old settled))

-- ---- what is prepared
fits : (policy : Policy) (s : State) → (LOCAL_IDENTITIES < locals_held s.identities + locals_wanted s.identities (policy_prefixes policy) → ⊥) → fault_of s (Apply policy) ≡ None
fits policy s never = by (nat_lt LOCAL_IDENTITIES (locals_held s.identities + locals_wanted s.identities (policy_prefixes policy))) refl
  where
    by : (b : Bool) → nat_lt LOCAL_IDENTITIES (locals_held s.identities + locals_wanted s.identities (policy_prefixes policy)) ≡ b → fault_if b LocalExhausted None ≡ None
    by true more = absurd (never (ltb-true LOCAL_IDENTITIES (locals_held s.identities + locals_wanted s.identities (policy_prefixes policy)) more))
    by false within = refl

fits_not : (policy : Policy) (s : State) → LOCAL_IDENTITIES < locals_held s.identities + locals_wanted s.identities (policy_prefixes policy) → fault_of s (Apply policy) ≡ Some LocalExhausted
fits_not policy s more = ap (λ b. fault_if b LocalExhausted None) (lt-ltb LOCAL_IDENTITIES (locals_held s.identities + locals_wanted s.identities (policy_prefixes policy)) more)

-- The parts of the change that a policy's request makes.
pub record AreParts (policy : Policy) (old : Stored) (stamped : Stamped) (key : PolicyKey) (taken given_up : List Prefix) : Type 0 where
  pub stamped_is : stamped ≡ record { policy = policy; stamp = old.state.revision + 1 }
  pub key_is : key ≡ policy.key
  pub taken_is : taken ≡ policy_prefixes policy
  pub given_up_is : given_up ≡ prefixes_of (policy_at policy.key old.state.policies)

pub parts_here : (policy : Policy) (old reserved : Stored) (stamped : Stamped) (key : PolicyKey) (taken given_up : List Prefix) → reserved ≡ with_rooms reserved.rooms old
    → AreParts policy reserved stamped key taken given_up → AreParts policy old stamped key taken given_up
parts_here policy old reserved stamped key taken given_up same parts =
    let own = subst (λ (t : Stored). AreParts policy t stamped key taken given_up) same parts in
    record { stamped_is = own.stamped_is; key_is = own.key_is; taken_is = own.taken_is; given_up_is = own.given_up_is }

-- Its prefixes are held, and the plan makes the sets exact for the rows after it.
pub record HoldsHere (taken given_up : List Prefix) (old new : Stored) (plan : Plan) : Type 0 where
  pub within : AllByRecursion IsPrefix taken
  pub enough : LOCAL_IDENTITIES < locals_held old.state.identities + locals_wanted old.state.identities taken → ⊥
  pub rows : new ≡ with_rows (prefixes_held taken old.state.identities) (with_cache new.cache old)
  pub sets : new.cache ≡ with_room new.cache.log.spare old.cache
  pub plan_is : Prepares (old.state.revision + 1) (prefixes_released given_up (prefixes_held taken old.state.identities)) new.cache plan

pub holds_here : (taken given_up slice other : List Prefix) (old new : Stored) (plan : Plan) → slice ≡ taken → other ≡ given_up → HoldsHere slice other old new plan → HoldsHere taken given_up old new plan
holds_here taken given_up slice other old new plan is is_too holds =
    subst (λ (ts : List Prefix). HoldsHere ts given_up old new plan) is (subst (λ (gs : List Prefix). HoldsHere slice gs old new plan) is_too holds)

abbrev with_ids : State → List IdentityRow → State
with_ids t rows = record t { identities = rows }

pub policy_prepared : (policy : Policy) (old referred new : Stored) (stamped : Stamped) (key : PolicyKey) (taken given_up : List Prefix) (plan : Plan) → IsShortPolicy policy
    → RefersHere policy old referred → AreParts policy old stamped key taken given_up → HoldsHere taken given_up referred new plan
    → IsPreparedHere (Apply policy) old new (record { plan = plan; change = change.Policy stamped key taken given_up })
policy_prepared policy old referred new stamped key taken given_up plan short refers parts holds =
    let ids : referred.state.identities ≡ old.state.identities = ap (λ (t : State). t.identities) refers.state in
    let more : prefixes_held taken referred.state.identities ≡ prefixes_held (policy_prefixes policy) old.state.identities = λ i. prefixes_held (parts.taken_is i) (ids i) in
    let after_it : prefixes_released given_up (prefixes_held taken referred.state.identities)
    ≡ prefixes_released (prefixes_of (policy_at policy.key old.state.policies)) (prefixes_held (policy_prefixes policy) old.state.identities) =
    λ i. prefixes_released (parts.given_up_is i) (more i) in
    record {
      valid = subst (AllByRecursion IsPrefix) parts.taken_is holds.within;
      no_fault = fits policy old.state (λ too_many. holds.enough (subst (λ (n : ℕ). LOCAL_IDENTITIES < n) (λ i. locals_held (sym ids i) + locals_wanted (sym ids i) (sym parts.taken_is i)) too_many));
      short = short;
      state = ap (λ (t : Stored). t.state) holds.rows ∙ (λ i. with_ids (refers.state i) (more i));
      refs = λ refs. subst (λ (c : Cache). RefsOf (listed_peers policy ++ peers_of old.state.policies) c.live) (sym holds.sets)
          (refs_held (listed_peers policy) (peers_of old.state.policies) old.cache.live referred.cache.live refs refers.more);
      exact = λ exact. subst (λ (c : Cache). AreExact old.state.identities c.live) (sym holds.sets) refers.exact;
      plan = subst (λ (rows : List IdentityRow). Prepares (old.state.revision + 1) rows new.cache plan) after_it
          (subst (λ (t : State). Prepares (t.revision + 1) (prefixes_released given_up (prefixes_held taken referred.state.identities)) new.cache plan) refers.state holds.plan_is);
      change = λ i. change.Policy (parts.stamped_is i) (parts.key_is i) (parts.taken_is i) (parts.given_up_is i);
      room = subst (λ (t : Stored). 0 < t.rooms.policies) (sym holds.rows) refers.room;
    }

-- ---- and where it isn't
pub given_back : (policy : Policy) (old referred held new : Stored) → RefersHere policy old referred → held ≡ referred → new ≡ with_cache new.cache held
    → IsMoreBy (listed_peers policy) new.cache.live held.cache.live → LosesRefs held.cache new.cache → IsStill old new
given_back policy old referred held new refers same dropped less loses = record {
  state = ap (λ (t : Stored). t.state) dropped ∙ ap (λ (t : Stored). t.state) same ∙ refers.state;
  refs = λ peers refs p.
      let none = undone (listed_peers policy) old.cache.live referred.cache.live new.cache.live refers.more (subst (λ (t : Stored). IsMoreBy (listed_peers policy) new.cache.live t.cache.live) same less) p in
      let was = refs p in
      omega (arith, none, was);
  exact = loses.exact old.state.identities (subst (λ (t : Stored). AreExact old.state.identities t.cache.live) (sym same) refers.exact);
  newest = ap newest loses.selectors.log ∙ ap (λ (t : Stored). newest t.cache.log) same ∙ refers.newest;
}

pub may_give_back : (policy : Policy) (old referred held : Stored) → RefersHere policy old referred → held ≡ referred → HasRefs (listed_peers policy) held.cache.live
may_give_back policy old referred held refers same =
    subst (λ (t : Stored). HasRefs (listed_peers policy) t.cache.live) (sym same) (has_more (listed_peers policy) old.cache.live referred.cache.live refers.more)

pub policy_refused : (policy : Policy) (old referred new : Stored) (taken : List Prefix) (error : IdentError) → RefersHere policy old referred → taken ≡ policy_prefixes policy
    → (◌≡◌ {A = Result Plan IdentError} (Err error) (Err ident.Exhausted) → LOCAL_IDENTITIES < locals_held referred.state.identities + locals_wanted referred.state.identities taken) → IsStill old new
    → PreparesOrNot (Apply policy) old new (Err (policy_error error))
policy_refused policy old referred new taken ident.Exhausted refers taken_is many still =
    let ids : referred.state.identities ≡ old.state.identities = ap (λ (t : State). t.identities) refers.state in
    still_refused policy old new LocalExhausted still
    (fits_not policy old.state (subst (λ (n : ℕ). LOCAL_IDENTITIES < n) (λ i. locals_held (ids i) + locals_wanted (ids i) (taken_is i)) (many refl)))
policy_refused policy old referred new taken ident.Memory refers taken_is many still = still_without_memory (Apply policy) old new still

-- more prefixes than numbers are left: nothing was taken yet
pub policy_too_much : (policy : Policy) (old new : Stored) (taken : List Prefix) → new ≡ with_rooms new.rooms old → taken ≡ policy_prefixes policy
    → nat_lt LOCAL_IDENTITIES (locals_held new.state.identities + locals_wanted new.state.identities taken) ≡ true → PreparesOrNot (Apply policy) old new (Err (Fault LocalExhausted))
policy_too_much policy old new taken same taken_is many =
    let ids : new.state.identities ≡ old.state.identities = ap (λ (t : Stored). t.state.identities) same in
    refused (Apply policy) old new LocalExhausted (as_before new.rooms old new same)
    (fits_not policy old.state (subst (λ (n : ℕ). LOCAL_IDENTITIES < n) (λ i. locals_held (ids i) + locals_wanted (ids i) (taken_is i))
    (ltb-true LOCAL_IDENTITIES (locals_held new.state.identities + locals_wanted new.state.identities taken) many)))
