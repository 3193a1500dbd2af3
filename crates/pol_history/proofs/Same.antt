-- The test of two endpoints, and the live endpoint of a state.
use Rattle.std.proofs.Common.{◌≡◌, ◌≢◌, ℕ, ◌==◌, ◌⊎◌, inl, inr, Bool, true, false, Option, None, Some, refl, sym, subst, bytes_eq}
use Rattle.std.proofs.lemmas.Bool.{and_from, and_parts, eqb-true}
use Rattle.std.proofs.lemmas.Bool.Decides.{eqb_tells}
use Rattle.std.proofs.lemmas.Slice.Eq.{bytes_eq-Decides}
use Rattle.pol_model.specs.Endpoints.{endpoint_of}
use Rattle.pol_model.specs.State.{State}
use Rattle.pol_model.specs.declared.row.Endpoint.{Endpoint}
use Rattle.pol_history.specs.declared.event.EndpointId.{EndpointId}
use Rattle.pol_history.specs.Commits.{if_added, live_endpoint, same_endpoint}

pub same-is : (a b : EndpointId) → same_endpoint a b ≡ true → a ≡ b
same-is a b same =
    let both = and_parts (bytes_eq a.name b.name) (a.added == b.added) same in
    let name : a.name ≡ b.name = (bytes_eq-Decides a.name b.name).0 both.0 in
    let added : a.added ≡ b.added = eqb-true a.added b.added both.1 in
    λ i. record { name = name i; added = added i }

pub is-same : (a : EndpointId) → same_endpoint a a ≡ true
is-same a = and_from (bytes_eq a.name a.name) (a.added == a.added) ((bytes_eq-Decides a.name a.name).1 refl) (elim (eqb_tells a.added a.added) [ inl h ↦ h.0 | inr h ↦ absurd (h.1 refl) ])

pub same_cases : (a b : EndpointId) → ((same_endpoint a b ≡ true) × (a ≡ b)) ⊎ ((same_endpoint a b ≡ false) × (a ≢ b))
same_cases a b = by_test (same_endpoint a b) refl
  where
    by_test : (test : Bool) → same_endpoint a b ≡ test → ((same_endpoint a b ≡ true) × (a ≡ b)) ⊎ ((same_endpoint a b ≡ false) × (a ≢ b))
    by_test true is = inl (is, same-is a b is)
    by_test false is = inr (is, (λ same. let again : same_endpoint a b ≡ true = subst (λ (c : EndpointId). same_endpoint a c ≡ true) same (is-same a) in absurd (cc)))

-- ---- live endpoints

added_parts : (added : ℕ) (found : Option Endpoint) (row : Endpoint) → if_added added found ≡ Some row → (found ≡ Some row) × (row.added ≡ added)
added_parts added None row is = absurd (cc)
added_parts added (Some other) row is =
    elim (eqb_tells other.added added) [
      | inl same ↦
          let here : Some other ≡ Some row = (rw same.0 at is) in
          (here, (cc (same.1)))
      | inr differ ↦ absurd (let none : None ≡ Some row = (rw differ.0 at is) in cc)
    ]

pub live-parts : (endpoint : EndpointId) (s : State) (row : Endpoint) → live_endpoint endpoint s ≡ Some row
    → (endpoint_of endpoint.name s.endpoints ≡ Some row) × (row.added ≡ endpoint.added)
live-parts endpoint s row is = added_parts endpoint.added (endpoint_of endpoint.name s.endpoints) row is

added_whole : (added : ℕ) (found : Option Endpoint) (row : Endpoint) → found ≡ Some row → row.added ≡ added → if_added added found ≡ Some row
added_whole added found row is same =
    subst (λ (o : Option Endpoint). if_added added o ≡ Some row) (sym is) (subst (λ (n : ℕ). if_added n (Some row) ≡ Some row) same (if_itself row))
  where
    if_itself : (row : Endpoint) → if_added row.added (Some row) ≡ Some row
    if_itself row = elim (eqb_tells row.added row.added) [ inl h ↦ rw (h.0) refl | inr h ↦ absurd (h.1 refl) ]

pub live-whole : (endpoint : EndpointId) (s : State) (row : Endpoint) → endpoint_of endpoint.name s.endpoints ≡ Some row → row.added ≡ endpoint.added
    → live_endpoint endpoint s ≡ Some row
live-whole endpoint s row found same = added_whole endpoint.added (endpoint_of endpoint.name s.endpoints) row found same
