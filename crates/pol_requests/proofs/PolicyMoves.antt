-- A policy's request is done, or taken back.
use Rattle.std.proofs.Common.{◌≡◌, ℕ, ◌+◌, ◌<◌, ◌≤◌, List, ◌++◌, Option, None, sym, ap, subst, ◌∙◌, arith}
use Rattle.pol_addr.specs.declared.network.Prefix.{Prefix}
use Rattle.pol_rule.specs.declared.policy.Policy.{Policy}
use Rattle.pol_rule.specs.declared.policy.PolicyKey.{PolicyKey}
use Rattle.pol_rule.specs.Prefixes.{policy_prefixes}
use Rattle.pol_model.specs.declared.request.Request.{Request}
use Rattle.pol_model.specs.declared.request.Request.TheVariants.{AddEndpoint, RemoveEndpoint, AddIdentity, RemoveIdentity, Apply, Remove, SetMode}
use Rattle.pol_model.specs.declared.row.IdentityRow.{IdentityRow}
use Rattle.pol_model.specs.declared.row.Stamped.{Stamped}
use Rattle.pol_model.specs.State.{State}
use Rattle.pol_model.specs.After.{after}
use Rattle.pol_model.specs.Fault.{fault_of}
use Rattle.pol_model.specs.Policies.{applied, policy_at, prefixes_of, removed}
use Rattle.pol_model.specs.Prefixes.{prefixes_released}
use Rattle.pol_model.specs.Sizes.{IsShortPolicy}
use Rattle.pol_model_laws.specs.Keeps.{Keeps}
use Rattle.pol_model_laws.proofs.NoFault.{apply, remove}
use Rattle.pol_model_laws.proofs.RowLaws.{prefixes_undone}
use Rattle.pol_set_changes.specs.Log.{newest}
use Rattle.pol_selcache.specs.Cache.{Cache}
use Rattle.pol_selcache.specs.Live.{AreExact, Live}
use Rattle.pol_tables.specs.Tables.{number_named}
use Rattle.pol_rule.specs.Listed.{listed_peers}
use Rattle.pol_peers.specs.Numbering.{LosesRefs}
use Rattle.pol_peers.specs.References.{HasRefs, IsMoreBy, RefsOf}
use Rattle.pol_peers.proofs.Counts.{refs_dropped, refs_may_drop}
use Rattle.pol_requests.specs.declared.prepared.TableChange.TheVariants as change
use Rattle.pol_requests.specs.declared.prepared.Prepared.{Prepared}
use Rattle.pol_store.specs.PolicyParts.{listed_of, with_cache, with_policies, with_rows}
use Rattle.pol_requests.specs.Prepared.{Changes, IsPrepared, IsUnderWay, MayChange, change_for}
use Rattle.pol_store.specs.Store.{Stored, StandsFor, peers_of, with_rooms}
use Rattle.pol_requests.proofs.PolicyRefs.{refs_applied, refs_removed}

-- ---- the rows of policies change, and what one of them held and referred to is given up
pub record IsMoved (policies : List Stamped) (former : Option Stamped) (given_up : List Prefix) (old new : Stored) : Type 0 where
  pub state : new.state ≡ record old.state { policies = policies; identities = prefixes_released given_up old.state.identities }
  pub peers : IsMoreBy (listed_of former) new.cache.live old.cache.live
  pub exact : (rows : List IdentityRow) → AreExact rows old.cache.live → AreExact rows new.cache.live
  pub newest : newest new.cache.log ≡ newest old.cache.log

abbrev give_up : List Prefix → State → State
give_up given_up t = record t { identities = prefixes_released given_up t.identities }

pub moved : (policies : List Stamped) (former : Option Stamped) (given_up : List Prefix) (old placed dropped new : Stored)
    → placed ≡ with_rooms placed.rooms (with_policies policies old)
    → dropped ≡ with_cache dropped.cache placed → IsMoreBy (listed_of former) dropped.cache.live placed.cache.live
    → LosesRefs placed.cache dropped.cache
    → new ≡ with_rows (prefixes_released given_up dropped.state.identities) dropped → IsMoved policies former given_up old new
moved policies former given_up old placed dropped new put same less loses released =
    let cache : new.cache ≡ dropped.cache = ap (λ (t : Stored). t.cache) released in
    record {
      state = ap (λ (t : Stored). t.state) released ∙ ap (λ (t : Stored). give_up given_up t.state) same ∙ ap (λ (t : Stored). give_up given_up t.state) put;
      peers = subst (λ (live : List Live). IsMoreBy (listed_of former) live old.cache.live) (sym (ap (λ (c : Cache). c.live) cache))
          (subst (λ (t : Stored). IsMoreBy (listed_of former) dropped.cache.live t.cache.live) put less);
      exact = λ rows was. subst (λ (c : Cache). AreExact rows c.live) (sym cache)
          (loses.exact rows (subst (λ (t : Stored). AreExact rows t.cache.live) (sym put) was));
      newest = ap (λ (c : Cache). newest c.log) cache ∙ ap newest loses.selectors.log ∙ ap (λ (t : Stored). newest t.cache.log) put;
    }

-- what the rows say of the policy that goes, they say where it is gone from them
pub may_drop : (policies : List Stamped) (former own : Option Stamped) (old placed : Stored) → placed ≡ with_rooms placed.rooms (with_policies policies old) → former ≡ own
    → HasRefs (listed_of own) old.cache.live → HasRefs (listed_of former) placed.cache.live
may_drop policies former own old placed put is has =
    subst (λ (o : Option Stamped). HasRefs (listed_of o) placed.cache.live) (sym is) (subst (λ (t : Stored). HasRefs (listed_of own) t.cache.live) (sym put) has)

same_newest : (a b n : ℕ) → a ≡ b → b ≤ n → a ≤ n
same_newest a b n is before = omega (arith, is, before)

-- ---- a policy is placed
applied_stands : (policy : Policy) (new : Stamped) (key : PolicyKey) (given_up : List Prefix) (former : Option Stamped) (old now : Stored)
    → former ≡ policy_at new.policy.key old.state.policies → IsMoved (applied new old.state.policies) former given_up old now
    → (s : State) → IsUnderWay s (Apply policy) old → new ≡ record { policy = policy; stamp = s.revision + 1 } → given_up ≡ prefixes_of (policy_at policy.key s.policies)
    → StandsFor (after s (Apply policy)) now
applied_stands policy new key given_up former old now former_is move s way new_is given_is =
    let one : Stamped = record { policy = policy; stamp = s.revision + 1 } in
    let like = way.like in
    let former_at : former ≡ policy_at policy.key s.policies = former_is ∙ (λ i. policy_at (new_is i).policy.key (like.policies i)) in
    record {
      like = record {
        revision = ap (λ (t : State). t.revision) move.state ∙ like.revision;
        mode = ap (λ (t : State). t.mode) move.state ∙ like.mode;
        identities = ap (λ (t : State). t.identities) move.state ∙ (λ i. prefixes_released (given_is i) (like.identities i));
        named = λ name. ap (λ (t : State). number_named name t.named) move.state ∙ like.named name;
        policies = ap (λ (t : State). t.policies) move.state ∙ (λ i. applied (new_is i) (like.policies i));
        endpoints = ap (λ (t : State). t.endpoints) move.state ∙ like.endpoints;
      };
      refs = refs_dropped (listed_of former) (peers_of (applied one s.policies)) old.cache.live now.cache.live
          (subst (λ (o : Option Stamped). RefsOf (listed_of o ++ peers_of (applied one s.policies)) old.cache.live) (sym former_at) (refs_applied one s.policies old.cache.live way.refs))
          move.peers;
      exact = move.exact (after s (Apply policy)).identities way.exact;
      newest = same_newest (newest now.cache.log) (newest old.cache.log) (s.revision + 1) move.newest way.newest;
    }

pub policy_put : (new : Stamped) (key : PolicyKey) (taken given_up : List Prefix) (former : Option Stamped) (old now : Stored)
    → former ≡ policy_at new.policy.key old.state.policies → IsMoved (applied new old.state.policies) former given_up old now
    → Changes old (change.Policy new key taken given_up) now
policy_put new key taken given_up former old now former_is move s (Apply policy) keeps way asked =
    let new_is : new ≡ record { policy = policy; stamp = s.revision + 1 } = cc in
    let given_is : given_up ≡ prefixes_of (policy_at policy.key s.policies) = cc in
    applied_stands policy new key given_up former old now former_is move s way new_is given_is
policy_put new key taken given_up former old now former_is move s (AddEndpoint name labels address) keeps way asked = absurd cc
policy_put new key taken given_up former old now former_is move s (RemoveEndpoint name) keeps way asked = absurd cc
policy_put new key taken given_up former old now former_is move s (AddIdentity name labels) keeps way asked = absurd cc
policy_put new key taken given_up former old now former_is move s (RemoveIdentity name) keeps way asked = absurd cc
policy_put new key taken given_up former old now former_is move s (Remove own) keeps way asked = absurd cc
policy_put new key taken given_up former old now former_is move s (SetMode mode) keeps way asked = absurd cc

-- what placing it asks
pub record MayPut (new : Stamped) (key : PolicyKey) (old : Stored) : Type 0 where
  pub room : 0 < old.rooms.policies
  pub key_is : key ≡ new.policy.key
  pub short : IsShortPolicy new.policy
  pub referred : HasRefs (listed_of (policy_at new.policy.key old.state.policies)) old.cache.live

applied_may : (policy : Policy) (new : Stamped) (key : PolicyKey) (old : Stored) (s : State) → IsUnderWay s (Apply policy) old → new ≡ record { policy = policy; stamp = s.revision + 1 } → key ≡ policy.key → MayPut new key old
applied_may policy new key old s way new_is key_is =
    let one : Stamped = record { policy = policy; stamp = s.revision + 1 } in
    let at : policy_at policy.key s.policies ≡ policy_at new.policy.key old.state.policies = λ i. policy_at (sym new_is i).policy.key (sym way.like.policies i) in
    record {
      room = way.room;
      key_is = key_is ∙ ap (λ (n : Stamped). n.policy.key) (sym new_is);
      short = subst (λ (n : Stamped). IsShortPolicy n.policy) (sym new_is) way.short;
      referred = subst (λ (o : Option Stamped). HasRefs (listed_of o) old.cache.live) at
          (refs_may_drop (listed_of (policy_at policy.key s.policies)) (peers_of (applied one s.policies)) old.cache.live (refs_applied one s.policies old.cache.live way.refs));
    }

pub may_put : (new : Stamped) (key : PolicyKey) (taken given_up : List Prefix) (old : Stored) → MayChange old (change.Policy new key taken given_up) → MayPut new key old
may_put new key taken given_up old may = by may.request may.under_way may.asked
  where
    by : (request : Request) → IsUnderWay may.state request old → change.Policy new key taken given_up ≡ change_for may.state request → MayPut new key old
    by (Apply policy) way asked =
        let new_is : new ≡ record { policy = policy; stamp = may.state.revision + 1 } = cc in
        let key_is : key ≡ policy.key = cc in
        applied_may policy new key old may.state way new_is key_is
    by (AddEndpoint name labels address) way asked = absurd cc
    by (RemoveEndpoint name) way asked = absurd cc
    by (AddIdentity name labels) way asked = absurd cc
    by (RemoveIdentity name) way asked = absurd cc
    by (Remove own) way asked = absurd cc
    by (SetMode mode) way asked = absurd cc

-- ---- a policy is taken out
removed_refs : (s : State) (key : PolicyKey) (live : List Live) → Keeps s → fault_of s (Remove key) ≡ None → RefsOf (peers_of s.policies) live
    → RefsOf (listed_of (policy_at key s.policies) ++ peers_of (removed key s.policies)) live
removed_refs s key live keeps none refs =
    let one = remove s key none in
    subst (λ (o : Option Stamped). RefsOf (listed_of o ++ peers_of (removed key s.policies)) live) (sym one.1) (refs_removed key s.policies one.0 live keeps.keys one.1 refs)

removed_stands : (key : PolicyKey) (given_up : List Prefix) (former : Option Stamped) (old now : Stored)
    → former ≡ policy_at key old.state.policies → IsMoved (removed key old.state.policies) former given_up old now
    → (s : State) → Keeps s → IsUnderWay s (Remove key) old → given_up ≡ prefixes_of (policy_at key s.policies) → StandsFor (after s (Remove key)) now
removed_stands key given_up former old now former_is move s keeps way given_is =
    let like = way.like in
    let former_at : former ≡ policy_at key s.policies = former_is ∙ ap (policy_at key) like.policies in
    record {
      like = record {
        revision = ap (λ (t : State). t.revision) move.state ∙ like.revision;
        mode = ap (λ (t : State). t.mode) move.state ∙ like.mode;
        identities = ap (λ (t : State). t.identities) move.state ∙ (λ i. prefixes_released (given_is i) (like.identities i));
        named = λ name. ap (λ (t : State). number_named name t.named) move.state ∙ like.named name;
        policies = ap (λ (t : State). t.policies) move.state ∙ ap (removed key) like.policies;
        endpoints = ap (λ (t : State). t.endpoints) move.state ∙ like.endpoints;
      };
      refs = refs_dropped (listed_of former) (peers_of (removed key s.policies)) old.cache.live now.cache.live
          (subst (λ (o : Option Stamped). RefsOf (listed_of o ++ peers_of (removed key s.policies)) old.cache.live) (sym former_at) (removed_refs s key old.cache.live keeps way.may.no_fault way.refs))
          move.peers;
      exact = move.exact (after s (Remove key)).identities way.exact;
      newest = same_newest (newest now.cache.log) (newest old.cache.log) (s.revision + 1) move.newest way.newest;
    }

pub policy_taken_out : (key : PolicyKey) (given_up : List Prefix) (former : Option Stamped) (old now : Stored)
    → former ≡ policy_at key old.state.policies → IsMoved (removed key old.state.policies) former given_up old now
    → Changes old (change.NoPolicy key given_up) now
policy_taken_out key given_up former old now former_is move s (Remove own) keeps way asked =
    let key_is : own ≡ key = cc in
    let given_is : given_up ≡ prefixes_of (policy_at own s.policies) = cc in
    removed_stands own given_up former old now (former_is ∙ ap (λ k. policy_at k old.state.policies) (sym key_is))
    (subst (λ k. IsMoved (removed k old.state.policies) former given_up old now) (sym key_is) move) s keeps way given_is
policy_taken_out key given_up former old now former_is move s (AddEndpoint name labels address) keeps way asked = absurd cc
policy_taken_out key given_up former old now former_is move s (RemoveEndpoint name) keeps way asked = absurd cc
policy_taken_out key given_up former old now former_is move s (AddIdentity name labels) keeps way asked = absurd cc
policy_taken_out key given_up former old now former_is move s (RemoveIdentity name) keeps way asked = absurd cc
policy_taken_out key given_up former old now former_is move s (Apply policy) keeps way asked = absurd cc
policy_taken_out key given_up former old now former_is move s (SetMode mode) keeps way asked = absurd cc

-- what taking it out asks
pub may_take_out : (key : PolicyKey) (given_up : List Prefix) (old : Stored) → MayChange old (change.NoPolicy key given_up) → HasRefs (listed_of (policy_at key old.state.policies)) old.cache.live
may_take_out key given_up old may = by may.request may.under_way may.asked
  where
    s : State
    s = may.state

    by : (request : Request) → IsUnderWay s request old → change.NoPolicy key given_up ≡ change_for s request → HasRefs (listed_of (policy_at key old.state.policies)) old.cache.live
    by (Remove own) way asked =
        let key_is : own ≡ key = cc in
        let at : policy_at own s.policies ≡ policy_at key old.state.policies = λ i. policy_at (key_is i) (sym way.like.policies i) in
        subst (λ (o : Option Stamped). HasRefs (listed_of o) old.cache.live) at
        (refs_may_drop (listed_of (policy_at own s.policies)) (peers_of (removed own s.policies)) old.cache.live (removed_refs s own old.cache.live may.keeps way.may.no_fault way.refs))
    by (AddEndpoint name labels address) way asked = absurd cc
    by (RemoveEndpoint name) way asked = absurd cc
    by (AddIdentity name labels) way asked = absurd cc
    by (RemoveIdentity name) way asked = absurd cc
    by (Apply policy) way asked = absurd cc
    by (SetMode mode) way asked = absurd cc

-- ---- a prepared policy is taken back
pub policy_back : (policy : Policy) (taken : List Prefix) (old released new : Stored) → released ≡ with_rows (prefixes_released taken old.state.identities) old
    → new ≡ with_cache new.cache released → IsMoreBy (listed_peers policy) new.cache.live released.cache.live
    → LosesRefs released.cache new.cache
    → (s : State) (prepared : Prepared) → Keeps s → IsPrepared s (Apply policy) old prepared → taken ≡ policy_prefixes policy → StandsFor s new
policy_back policy taken old released new given same less loses s prepared keeps is taken_is =
    let like = is.like in
    let state : new.state ≡ record old.state { identities = prefixes_released taken old.state.identities } = ap (λ (t : Stored). t.state) same ∙ ap (λ (t : Stored). t.state) given in
    let back : prefixes_released taken old.state.identities ≡ s.identities =
    (λ i. prefixes_released (taken_is i) (like.identities i))
    ∙ prefixes_undone (policy_prefixes policy) s.identities keeps.identities is.may.valid (apply s policy is.may.no_fault) in
    record {
      like = record {
        revision = ap (λ (t : State). t.revision) state ∙ like.revision;
        mode = ap (λ (t : State). t.mode) state ∙ like.mode;
        identities = ap (λ (t : State). t.identities) state ∙ back;
        named = λ name. ap (λ (t : State). number_named name t.named) state ∙ like.named name;
        policies = ap (λ (t : State). t.policies) state ∙ like.policies;
        endpoints = ap (λ (t : State). t.endpoints) state ∙ like.endpoints;
      };
      refs = refs_dropped (listed_peers policy) (peers_of s.policies) old.cache.live new.cache.live is.refs
          (subst (λ (t : Stored). IsMoreBy (listed_peers policy) new.cache.live t.cache.live) given less);
      exact = loses.exact s.identities (subst (λ (t : Stored). AreExact s.identities t.cache.live) (sym given) is.exact);
      newest =
          before (newest new.cache.log) (newest old.cache.log) prepared.plan.revision s.revision
          (ap newest loses.selectors.log ∙ ap (λ (t : Stored). newest t.cache.log) given) is.plan.fits.newer is.plan.revision_is;
    }
  where
    before : (a b r n : ℕ) → a ≡ b → b < r → r ≡ n + 1 → a ≤ n
    before a b r n is less at = omega (arith, is, less, at)
