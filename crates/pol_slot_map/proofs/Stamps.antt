-- A policy whose stamp is at most a revision was there at that revision, and at each one since.
use Rattle.std.proofs.Common.{◌≡◌, ℕ, ◌+◌, ◌-◌, ◌≤◌, not, List, [], ◌∷◌, length, take, drop, inl, inr, sym, ap, ◌∙◌, subst, arith}
use Rattle.std.proofs.lemmas.List.{length-take, take-append-drop}
use Rattle.std.proofs.lemmas.Option.{slice_get_within}
use Rattle.pol_data.proofs.Members.{Contains-from_In, In}
use Rattle.pol_model.specs.declared.options.Options.{Options}
use Rattle.pol_model.specs.declared.request.Request.{Request}
use Rattle.pol_model.specs.declared.request.Request.TheVariants.{AddEndpoint, RemoveEndpoint, AddIdentity, RemoveIdentity, Apply, Remove, SetMode}
use Rattle.pol_model.specs.declared.row.Stamped.{Stamped}
use Rattle.pol_model.specs.After.{after, after_all, start, state_of}
use Rattle.pol_model.specs.Policies.{is_of_key}
use Rattle.pol_model.specs.State.{State}
use Rattle.pol_model.proofs.Histories.{state_of-revision}
use Rattle.pol_model_laws.proofs.KeptStates.{In-applied}
use Rattle.pol_model_laws.proofs.Lives.{after_append}
use Rattle.pol_model_laws.proofs.Membership.{In-filter}
use Rattle.pol_model_laws.proofs.Remembered.{applied-by}

-- one request back
policy_before : (s : State) (request : Request) (stamped : Stamped) → stamped.stamp ≤ s.revision → In stamped (after s request).policies → In stamped s.policies
policy_before s (AddEndpoint name labels address) stamped old there = there
policy_before s (RemoveEndpoint name) stamped old there = there
policy_before s (AddIdentity name labels) stamped old there = there
policy_before s (RemoveIdentity name) stamped old there = there
policy_before s (Apply policy) stamped old there =
    elim (In-applied (record { policy = policy; stamp = s.revision + 1 }) stamped s.policies there) [
      | inl new ↦ absurd (let stamp : s.revision + 1 ≡ stamped.stamp = ap (λ (p : Stamped). p.stamp) new in omega (arith, old, stamp))
      | inr before ↦ before
    ]
policy_before s (Remove key) stamped old there = (In-filter (λ p. not (is_of_key key p)) stamped s.policies there).0
policy_before s (SetMode mode) stamped old there = there

policy_before_all : (s : State) (requests : List Request) (stamped : Stamped) → stamped.stamp ≤ s.revision → In stamped (after_all s requests).policies → In stamped s.policies
policy_before_all s [] stamped old there = there
policy_before_all s (request ∷ requests) stamped old there =
    policy_before s request stamped old (policy_before_all (after s request) requests stamped (omega (arith, old)) there)

-- the state after all requests is that after the first ones, and then the rest
state_split : (options : Options) (requests : List Request) (n : ℕ) → state_of options requests ≡ after_all (state_of options (take n requests)) (drop n requests)
state_split options requests n =
    ap (λ (xs : List Request). state_of options xs) (sym (take-append-drop n requests)) ∙ after_append (start options) (take n requests) (drop n requests)

pub policy_then : (options : Options) (requests : List Request) (n : ℕ) (stamped : Stamped) → n ≤ length requests → stamped.stamp ≤ n
    → In stamped (state_of options requests).policies → In stamped (state_of options (take n requests)).policies
policy_then options requests n stamped within old there =
    let reached : stamped.stamp ≤ (state_of options (take n requests)).revision =
    omega (arith, old, within, state_of-revision options (take n requests), length-take n requests) in
    policy_before_all (state_of options (take n requests)) (drop n requests) stamped reached
    (subst (λ (s : State). In stamped s.policies) (state_split options requests n) there)

-- no policy has a later stamp
pub stamp_within : (options : Options) (requests : List Request) (stamped : Stamped) → In stamped (state_of options requests).policies
    → stamped.stamp ≤ length requests
stamp_within options requests stamped there =
    let by = applied-by options requests stamped (Contains-from_In (state_of options requests).policies stamped there) in
    let below = slice_get_within requests (stamped.stamp - 1) (Apply stamped.policy) by.1 in
    let counts = by.0 in
    omega (arith, counts, below)
