-- What was prepared is taken back, change by change.
use Rattle.std.proofs.Common.{◌≡◌, ℕ, ◌+◌, ◌≤◌, ◌&&◌, not, true, false, List, refl, sym, ap, subst, ◌∙◌, arith}
use Rattle.pol_addr.specs.declared.network.Prefix.{Prefix}
use Rattle.pol_labels.specs.declared.label.Label.{Label}
use Rattle.pol_rule.specs.declared.policy.PolicyKey.{PolicyKey}
use Rattle.pol_rule.specs.Prefixes.{policy_prefixes}
use Rattle.pol_model.specs.declared.request.Request.{Request}
use Rattle.pol_model.specs.declared.request.Request.TheVariants.{AddEndpoint, RemoveEndpoint, AddIdentity, RemoveIdentity, Apply, Remove, SetMode}
use Rattle.pol_model.specs.declared.row.Endpoint.{Endpoint}
use Rattle.pol_model.specs.declared.row.Stamped.{Stamped}
use Rattle.pol_model.specs.State.{State}
use Rattle.pol_model.specs.After.{new_endpoint}
use Rattle.pol_model.specs.Fault.{has_reserved, is_init}
use Rattle.pol_model.specs.Identities.{is_local, number_for, released}
use Rattle.pol_model_laws.specs.Holding.{has_row}
use Rattle.pol_model_laws.specs.Keeps.{Keeps}
use Rattle.pol_rule.specs.Listed.{listed_peers}
use Rattle.pol_peers.specs.References.{HasRefs, references_of, times_in}
use Rattle.pol_peers.proofs.Counts.{times_append}
use Rattle.pol_requests.specs.declared.prepared.TableChange.TheVariants as change
use Rattle.pol_requests.specs.declared.prepared.Prepared.{Prepared}
use Rattle.pol_store.specs.Parts.{numbers_of, with_numbers}
use Rattle.pol_store.specs.Store.{StandsFor, Stored, peers_of}
use Rattle.pol_requests.specs.Prepared.{CanBeDone, IsPrepared, TakesBack}
use Rattle.pol_requests.proofs.ChangeParts.{differ, endpoint_of_change, number_of_change, policy_of_change, taken_of_change}
use Rattle.pol_requests.proofs.Faults.{may_be_added, may_be_named}
use Rattle.pol_requests.proofs.UnderWay.{back_with, like_before, may_give_back}

-- what a prepared endpoint and a prepared named identity hold
pub record MayGiveBack (number : ℕ) (stored : Stored) : Type 0 where
  pub held : has_row number stored.state.identities ≡ true
  pub not_local : is_local number ≡ false

-- no label is reserved
not_reserved : (labels : List Label) → has_reserved labels ≡ false → (has_reserved labels && not (is_init labels)) ≡ false
not_reserved labels none = ap (λ b. b && not (is_init labels)) none

-- ---- an endpoint
endpoint_gives_back : (endpoint : Endpoint) (name : List ℕ) (old : Stored) (prepared : Prepared) → prepared.change ≡ change.Endpoint endpoint name
    → (s : State) (request : Request) → Keeps s → IsPrepared s request old prepared → MayGiveBack endpoint.identity old
endpoint_gives_back endpoint name old prepared its s (AddEndpoint n labels address) keeps ready =
    let asked = sym its ∙ ready.change in
    let same : endpoint ≡ new_endpoint s n labels address = ap (endpoint_of_change endpoint) asked in
    let may = may_be_added s n labels address ready.may.no_fault in
    let both = may_give_back s keeps labels ready.may.valid.0 may.allowed may.room endpoint.identity old.state.identities (ap (λ (e : Endpoint). e.identity) same) ready.like.identities in
    record { held = both.0; not_local = both.1 }
endpoint_gives_back endpoint name old prepared its s (RemoveEndpoint n) keeps ready = absurd (differ _ _ (sym its ∙ ready.change) refl)
endpoint_gives_back endpoint name old prepared its s (AddIdentity n labels) keeps ready = absurd (differ _ _ (sym its ∙ ready.change) refl)
endpoint_gives_back endpoint name old prepared its s (RemoveIdentity n) keeps ready = absurd (differ _ _ (sym its ∙ ready.change) refl)
endpoint_gives_back endpoint name old prepared its s (Apply policy) keeps ready = absurd (differ _ _ (sym its ∙ ready.change) refl)
endpoint_gives_back endpoint name old prepared its s (Remove key) keeps ready = absurd (differ _ _ (sym its ∙ ready.change) refl)
endpoint_gives_back endpoint name old prepared its s (SetMode mode) keeps ready = absurd (differ _ _ (sym its ∙ ready.change) refl)

pub endpoint_may_give_back : (endpoint : Endpoint) (name : List ℕ) (old : Stored) (prepared : Prepared) → prepared.change ≡ change.Endpoint endpoint name → CanBeDone old prepared → MayGiveBack endpoint.identity old
endpoint_may_give_back endpoint name old prepared its can = endpoint_gives_back endpoint name old prepared its can.state can.request can.keeps can.is_prepared

pub endpoint_back : (endpoint : Endpoint) (name : List ℕ) (old new : Stored) (prepared : Prepared) → prepared.change ≡ change.Endpoint endpoint name
    → new ≡ with_numbers (record (numbers_of old) { rows = released endpoint.identity old.state.identities }) old → TakesBack old prepared new
endpoint_back endpoint name old new prepared its is s (AddEndpoint n labels address) keeps ready =
    let asked = sym its ∙ ready.change in
    let same : endpoint ≡ new_endpoint s n labels address = ap (endpoint_of_change endpoint) asked in
    let may = may_be_added s n labels address ready.may.no_fault in
    back_with s (AddEndpoint n labels address) old prepared ready new refl (ap (λ (stored : Stored). stored.cache) is)
    (like_before s keeps labels ready.may.valid.0 may.allowed may.room endpoint.identity old new ready.like (ap (λ (e : Endpoint). e.identity) same) is)
endpoint_back endpoint name old new prepared its is s (RemoveEndpoint n) keeps ready = absurd (differ _ _ (sym its ∙ ready.change) refl)
endpoint_back endpoint name old new prepared its is s (AddIdentity n labels) keeps ready = absurd (differ _ _ (sym its ∙ ready.change) refl)
endpoint_back endpoint name old new prepared its is s (RemoveIdentity n) keeps ready = absurd (differ _ _ (sym its ∙ ready.change) refl)
endpoint_back endpoint name old new prepared its is s (Apply policy) keeps ready = absurd (differ _ _ (sym its ∙ ready.change) refl)
endpoint_back endpoint name old new prepared its is s (Remove key) keeps ready = absurd (differ _ _ (sym its ∙ ready.change) refl)
endpoint_back endpoint name old new prepared its is s (SetMode mode) keeps ready = absurd (differ _ _ (sym its ∙ ready.change) refl)

-- ---- a named identity
name_gives_back : (name : List ℕ) (number : ℕ) (old : Stored) (prepared : Prepared) → prepared.change ≡ change.Named name number
    → (s : State) (request : Request) → Keeps s → IsPrepared s request old prepared → MayGiveBack number old
name_gives_back name number old prepared its s (AddIdentity n labels) keeps ready =
    let asked = sym its ∙ ready.change in
    let same : number ≡ number_for labels s.identities = ap (number_of_change number) asked in
    let may = may_be_named s n labels ready.may.no_fault in
    let both = may_give_back s keeps labels ready.may.valid (not_reserved labels may.allowed) may.room number old.state.identities same ready.like.identities in
    record { held = both.0; not_local = both.1 }
name_gives_back name number old prepared its s (AddEndpoint n labels address) keeps ready = absurd (differ _ _ (sym its ∙ ready.change) refl)
name_gives_back name number old prepared its s (RemoveEndpoint n) keeps ready = absurd (differ _ _ (sym its ∙ ready.change) refl)
name_gives_back name number old prepared its s (RemoveIdentity n) keeps ready = absurd (differ _ _ (sym its ∙ ready.change) refl)
name_gives_back name number old prepared its s (Apply policy) keeps ready = absurd (differ _ _ (sym its ∙ ready.change) refl)
name_gives_back name number old prepared its s (Remove key) keeps ready = absurd (differ _ _ (sym its ∙ ready.change) refl)
name_gives_back name number old prepared its s (SetMode mode) keeps ready = absurd (differ _ _ (sym its ∙ ready.change) refl)

pub name_may_give_back : (name : List ℕ) (number : ℕ) (old : Stored) (prepared : Prepared) → prepared.change ≡ change.Named name number → CanBeDone old prepared → MayGiveBack number old
name_may_give_back name number old prepared its can = name_gives_back name number old prepared its can.state can.request can.keeps can.is_prepared

pub name_back : (name : List ℕ) (number : ℕ) (old new : Stored) (prepared : Prepared) → prepared.change ≡ change.Named name number
    → new ≡ with_numbers (record (numbers_of old) { rows = released number old.state.identities }) old → TakesBack old prepared new
name_back name number old new prepared its is s (AddIdentity n labels) keeps ready =
    let asked = sym its ∙ ready.change in
    let same : number ≡ number_for labels s.identities = ap (number_of_change number) asked in
    let may = may_be_named s n labels ready.may.no_fault in
    back_with s (AddIdentity n labels) old prepared ready new refl (ap (λ (stored : Stored). stored.cache) is)
    (like_before s keeps labels ready.may.valid (not_reserved labels may.allowed) may.room number old new ready.like same is)
name_back name number old new prepared its is s (AddEndpoint n labels address) keeps ready = absurd (differ _ _ (sym its ∙ ready.change) refl)
name_back name number old new prepared its is s (RemoveEndpoint n) keeps ready = absurd (differ _ _ (sym its ∙ ready.change) refl)
name_back name number old new prepared its is s (RemoveIdentity n) keeps ready = absurd (differ _ _ (sym its ∙ ready.change) refl)
name_back name number old new prepared its is s (Apply policy) keeps ready = absurd (differ _ _ (sym its ∙ ready.change) refl)
name_back name number old new prepared its is s (Remove key) keeps ready = absurd (differ _ _ (sym its ∙ ready.change) refl)
name_back name number old new prepared its is s (SetMode mode) keeps ready = absurd (differ _ _ (sym its ∙ ready.change) refl)

-- ---- a policy
policy_has_refs : (stamped : Stamped) (key : PolicyKey) (taken given_up : List Prefix) (old : Stored) (prepared : Prepared) → prepared.change ≡ change.Policy stamped key taken given_up
    → (s : State) (request : Request) → Keeps s → IsPrepared s request old prepared → HasRefs (listed_peers stamped.policy) old.cache.live
policy_has_refs stamped key taken given_up old prepared its s (Apply policy) keeps ready =
    let asked = sym its ∙ ready.change in
    let same : stamped ≡ record { policy = policy; stamp = s.revision + 1 } = ap (policy_of_change stamped) asked in
    λ p.
    let refs = ready.refs p in
    let both = times_append p (listed_peers policy) (peers_of s.policies) in
    subst (λ (x : Stamped). times_in p (listed_peers x.policy) ≤ references_of p old.cache.live) (sym same) (omega (arith, refs, both))
policy_has_refs stamped key taken given_up old prepared its s (AddEndpoint n labels address) keeps ready = absurd (differ _ _ (sym its ∙ ready.change) refl)
policy_has_refs stamped key taken given_up old prepared its s (RemoveEndpoint n) keeps ready = absurd (differ _ _ (sym its ∙ ready.change) refl)
policy_has_refs stamped key taken given_up old prepared its s (AddIdentity n labels) keeps ready = absurd (differ _ _ (sym its ∙ ready.change) refl)
policy_has_refs stamped key taken given_up old prepared its s (RemoveIdentity n) keeps ready = absurd (differ _ _ (sym its ∙ ready.change) refl)
policy_has_refs stamped key taken given_up old prepared its s (Remove own) keeps ready = absurd (differ _ _ (sym its ∙ ready.change) refl)
policy_has_refs stamped key taken given_up old prepared its s (SetMode mode) keeps ready = absurd (differ _ _ (sym its ∙ ready.change) refl)

pub policy_may_give_back : (stamped : Stamped) (key : PolicyKey) (taken given_up : List Prefix) (old : Stored) (prepared : Prepared) → prepared.change ≡ change.Policy stamped key taken given_up
    → CanBeDone old prepared → HasRefs (listed_peers stamped.policy) old.cache.live
policy_may_give_back stamped key taken given_up old prepared its can = policy_has_refs stamped key taken given_up old prepared its can.state can.request can.keeps can.is_prepared

pub policy_back : (stamped : Stamped) (key : PolicyKey) (taken given_up : List Prefix) (old new : Stored) (prepared : Prepared) → prepared.change ≡ change.Policy stamped key taken given_up
    → ((s : State) (any : Prepared) → Keeps s → IsPrepared s (Apply stamped.policy) old any → taken ≡ policy_prefixes stamped.policy → StandsFor s new) → TakesBack old prepared new
policy_back stamped key taken given_up old new prepared its back s (Apply policy) keeps ready =
    let asked = sym its ∙ ready.change in
    let same : stamped ≡ record { policy = policy; stamp = s.revision + 1 } = ap (policy_of_change stamped) asked in
    let prefixes : taken ≡ policy_prefixes policy = ap (taken_of_change taken) asked in
    back s prepared keeps (subst (λ (x : Stamped). IsPrepared s (Apply x.policy) old prepared) (sym same) ready)
    (prefixes ∙ ap (λ (x : Stamped). policy_prefixes x.policy) (sym same))
policy_back stamped key taken given_up old new prepared its back s (AddEndpoint n labels address) keeps ready = absurd (differ _ _ (sym its ∙ ready.change) refl)
policy_back stamped key taken given_up old new prepared its back s (RemoveEndpoint n) keeps ready = absurd (differ _ _ (sym its ∙ ready.change) refl)
policy_back stamped key taken given_up old new prepared its back s (AddIdentity n labels) keeps ready = absurd (differ _ _ (sym its ∙ ready.change) refl)
policy_back stamped key taken given_up old new prepared its back s (RemoveIdentity n) keeps ready = absurd (differ _ _ (sym its ∙ ready.change) refl)
policy_back stamped key taken given_up old new prepared its back s (Remove own) keeps ready = absurd (differ _ _ (sym its ∙ ready.change) refl)
policy_back stamped key taken given_up old new prepared its back s (SetMode mode) keeps ready = absurd (differ _ _ (sym its ∙ ready.change) refl)
