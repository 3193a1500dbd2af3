-- What a request adds is found, and what it removes isn't.
use Rattle.std.proofs.Common.{◌≡◌, ℕ, ◌+◌, Bool, not, List, [], ◌∷◌, filter, find, None, Some, refl, inl, inr}
use Rattle.std.specs.Cmp.Lexicographic.{bytes_decides}
use Rattle.std.proofs.lemmas.Bool.{cases_Bool}
use Rattle.pol_addr.specs.declared.address.Addr.{Addr}
use Rattle.pol_labels.specs.declared.label.Label.{Label}
use Rattle.pol_rule.specs.declared.policy.Policy.{Policy}
use Rattle.pol_rule.specs.declared.policy.PolicyKey.{PolicyKey}
use Rattle.pol_model.specs.declared.request.Request.TheVariants.{AddEndpoint, RemoveEndpoint, AddIdentity, RemoveIdentity, Apply, Remove}
use Rattle.pol_model.specs.declared.row.NamedIdentity.{NamedIdentity}
use Rattle.pol_model.specs.declared.row.Stamped.{Stamped}
use Rattle.pol_model.specs.After.{after, new_endpoint}
use Rattle.pol_model.specs.Endpoints.{endpoint_of, named_of}
use Rattle.pol_model.specs.Identities.{number_for}
use Rattle.pol_model_laws.specs.Keeps.{Keeps}
use Rattle.pol_model.specs.Policies.{is_of_key, policy_at}
use Rattle.pol_model.specs.State.{State}
use Rattle.pol_model_laws.specs.WithoutFaults.{MayCommit}
use Rattle.pol_model_laws.proofs.ComeAndGo.{applied-here}
use Rattle.pol_model_laws.proofs.Distinct.{found_by_key}
use Rattle.pol_model_laws.proofs.Keyed.{placed-here}
use Rattle.pol_model_laws.proofs.Membership.{In-right}
use Rattle.pol_model_laws.proofs.PolicyHolders.{same_key-Decides}
use Rattle.pol_model_laws.proofs.StateLaws.{keeps-after}

none_found : {X : Type 0} (p : X → Bool) (xs : List X) → find p (filter (λ x. not (p x)) xs) ≡ None
none_found p [] = refl
none_found p (x ∷ xs) =
    let others = none_found p xs in
    elim (cases_Bool (p x)) [
      | inl passes ↦ rw (passes) others
      | inr fails ↦ rw (fails, fails) others
    ]

pub endpoint-added : (s : State) (name : List ℕ) (labels : List Label) (address : Addr) → Keeps s → MayCommit s (AddEndpoint name labels address)
    → endpoint_of name (after s (AddEndpoint name labels address)).endpoints ≡ Some (new_endpoint s name labels address)
endpoint-added s name labels address it may =
    let new = new_endpoint s name labels address in
    found_by_key (λ e. e.name) bytes_decides new (after s (AddEndpoint name labels address)).endpoints
    (keeps-after s (AddEndpoint name labels address) it may).endpoint_names (placed-here (λ e. e.slot) new s.endpoints)

pub identity-added : (s : State) (name : List ℕ) (labels : List Label) → Keeps s → MayCommit s (AddIdentity name labels)
    → named_of name (after s (AddIdentity name labels)).named ≡ Some (record { name = name; number = number_for labels s.identities })
identity-added s name labels it may =
    let new : NamedIdentity = record { name = name; number = number_for labels s.identities } in
    found_by_key (λ i. i.name) bytes_decides new (after s (AddIdentity name labels)).named
    (keeps-after s (AddIdentity name labels) it may).identity_names (In-right new s.named (new ∷ []) (inl refl))

pub policy-applied : (s : State) (policy : Policy) → Keeps s → MayCommit s (Apply policy)
    → policy_at policy.key (after s (Apply policy)).policies ≡ Some (record { policy = policy; stamp = s.revision + 1 })
policy-applied s policy it may =
    let new : Stamped = record { policy = policy; stamp = s.revision + 1 } in
    found_by_key (λ p. p.policy.key) same_key-Decides new (after s (Apply policy)).policies
    (keeps-after s (Apply policy) it may).keys (applied-here new s.policies)

pub endpoint-removed : (s : State) (name : List ℕ) → endpoint_of name (after s (RemoveEndpoint name)).endpoints ≡ None
endpoint-removed s name = none_found _ s.endpoints

pub identity-removed : (s : State) (name : List ℕ) → named_of name (after s (RemoveIdentity name)).named ≡ None
identity-removed s name = none_found _ s.named

pub policy-removed : (s : State) (key : PolicyKey) → policy_at key (after s (Remove key)).policies ≡ None
policy-removed s key = none_found (is_of_key key) s.policies
