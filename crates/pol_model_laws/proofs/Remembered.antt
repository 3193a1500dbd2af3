-- Which request added an endpoint, and which applied a policy.
use Rattle.std.proofs.Common.{zero, suc, ◌≡◌, ℕ, ◌+◌, ◌-◌, ◌<◌, not, List, [], ◌∷◌, ◌++◌, length, Some, inl, inr, refl, sym, subst, append-nil, append_assoc, length-append, arith}
use Rattle.std.specs.List.{Contains, slice_get}
use Rattle.std.specs.Str.{bytes_eq}
use Rattle.pol_data.proofs.Members.{In, In-from_Contains}
use Rattle.pol_model.specs.declared.options.Options.{Options}
use Rattle.pol_model.specs.declared.request.Request.{Request}
use Rattle.pol_model.specs.declared.request.Request.TheVariants.{AddEndpoint, RemoveEndpoint, AddIdentity, RemoveIdentity, Apply, Remove, SetMode}
use Rattle.pol_model.specs.declared.row.Endpoint.{Endpoint}
use Rattle.pol_model.specs.declared.row.Stamped.{Stamped}
use Rattle.pol_model.specs.After.{after, after_all, new_endpoint, start, state_of}
use Rattle.pol_model.specs.Policies.{is_of_key}
use Rattle.pol_model.specs.State.{State}
use Rattle.pol_model_laws.proofs.KeptStates.{In-applied}
use Rattle.pol_model_laws.proofs.Keyed.{In-placed}
use Rattle.pol_model_laws.proofs.Membership.{In-filter}

-- the request of that revision, counted from 1
record IsRequestOf (past : List Request) (revision : ℕ) (request : Request) : Type 0 where
  place : ℕ
  counts : revision ≡ place + 1
  there : slice_get past place ≡ Some request

get_more : {X : Type 0} (xs ys : List X) (i : ℕ) (x : X) → slice_get xs i ≡ Some x → slice_get (xs ++ ys) i ≡ Some x
get_more [] ys i x there = absurd cc
get_more (y ∷ xs) ys zero x there = there
get_more (y ∷ xs) ys (suc i) x there = get_more xs ys i x there

get_last : {X : Type 0} (xs : List X) (x : X) → slice_get (xs ++ x ∷ []) (length xs) ≡ Some x
get_last [] x = refl
get_last (y ∷ xs) x = get_last xs x

request_more : (past more : List Request) (revision : ℕ) (request : Request) → IsRequestOf past revision request → IsRequestOf (past ++ more) revision request
request_more past more revision request is = record { place = is.place; counts = is.counts; there = get_more past more is.place request is.there }

request_last : (past : List Request) (revision : ℕ) (request : Request) → revision ≡ length past → IsRequestOf (past ++ request ∷ []) (revision + 1) request
request_last past revision request is = record { place = length past; counts = omega (arith, is); there = get_last past request }

record Remembers (past : List Request) (s : State) : Type 0 where
  revision : s.revision ≡ length past
  endpoints : (e : Endpoint) → In e s.endpoints → IsRequestOf past e.added (AddEndpoint e.name e.labels e.address)
  policies : (p : Stamped) → In p s.policies → IsRequestOf past p.stamp (Apply p.policy)

endpoints_more : (past : List Request) (s : State) (request : Request) → Remembers past s → (e : Endpoint) → In e (after s request).endpoints → IsRequestOf (past ++ request ∷ []) e.added (AddEndpoint e.name e.labels e.address)
endpoints_more past s (AddEndpoint name labels address) known e there =
    elim (In-placed (λ e. e.slot) (new_endpoint s name labels address) e s.endpoints there) [
      | inl new ↦ subst (λ e. IsRequestOf (past ++ AddEndpoint name labels address ∷ []) e.added (AddEndpoint e.name e.labels e.address)) new (request_last past s.revision (AddEndpoint name labels address) known.revision)
      | inr old ↦ request_more past _ e.added _ (known.endpoints e old)
    ]
endpoints_more past s (RemoveEndpoint name) known e there = request_more past _ e.added _ (known.endpoints e (In-filter (λ e. not (bytes_eq e.name name)) e s.endpoints there).0)
endpoints_more past s (AddIdentity name labels) known e there = request_more past _ e.added _ (known.endpoints e there)
endpoints_more past s (RemoveIdentity name) known e there = request_more past _ e.added _ (known.endpoints e there)
endpoints_more past s (Apply policy) known e there = request_more past _ e.added _ (known.endpoints e there)
endpoints_more past s (Remove key) known e there = request_more past _ e.added _ (known.endpoints e there)
endpoints_more past s (SetMode mode) known e there = request_more past _ e.added _ (known.endpoints e there)

policies_more : (past : List Request) (s : State) (request : Request) → Remembers past s → (p : Stamped) → In p (after s request).policies → IsRequestOf (past ++ request ∷ []) p.stamp (Apply p.policy)
policies_more past s (AddEndpoint name labels address) known p there = request_more past _ p.stamp _ (known.policies p there)
policies_more past s (RemoveEndpoint name) known p there = request_more past _ p.stamp _ (known.policies p there)
policies_more past s (AddIdentity name labels) known p there = request_more past _ p.stamp _ (known.policies p there)
policies_more past s (RemoveIdentity name) known p there = request_more past _ p.stamp _ (known.policies p there)
policies_more past s (Apply policy) known p there =
    elim (In-applied (record { policy = policy; stamp = s.revision + 1 }) p s.policies there) [
      | inl new ↦ subst (λ p. IsRequestOf (past ++ Apply policy ∷ []) p.stamp (Apply p.policy)) new (request_last past s.revision (Apply policy) known.revision)
      | inr old ↦ request_more past _ p.stamp _ (known.policies p old)
    ]
policies_more past s (Remove key) known p there = request_more past _ p.stamp _ (known.policies p (In-filter (λ p. not (is_of_key key p)) p s.policies there).0)
policies_more past s (SetMode mode) known p there = request_more past _ p.stamp _ (known.policies p there)

remembers_all : (past : List Request) (s : State) (requests : List Request) → Remembers past s → Remembers (past ++ requests) (after_all s requests)
remembers_all past s [] known = subst (λ list. Remembers list s) (sym (append-nil past)) known
remembers_all past s (request ∷ others) known =
    subst (λ list. Remembers list (after_all (after s request) others)) (append_assoc past (request ∷ []) others)
    (remembers_all (past ++ request ∷ []) (after s request) others
    (record {
      revision = omega (arith, known.revision, length-append past (request ∷ []));
      endpoints = endpoints_more past s request known;
      policies = policies_more past s request known;
    }))

remembered : (options : Options) (requests : List Request) → Remembers requests (state_of options requests)
remembered options requests = remembers_all [] (start options) requests (record { revision = refl; endpoints = λ e there. elim there [ ]; policies = λ p there. elim there [ ] })

told : (requests : List Request) (revision : ℕ) (request : Request) → IsRequestOf requests revision request → (0 < revision) × (slice_get requests (revision - 1) ≡ Some request)
told requests revision request is =
    let counts = is.counts in
    let place : is.place ≡ revision - 1 = omega (arith, counts) in
    (omega (arith, counts), subst (λ n. slice_get requests n ≡ Some request) place is.there)

pub added-by : (options : Options) (requests : List Request) (e : Endpoint) → Contains (state_of options requests).endpoints e
    → (0 < e.added) × (slice_get requests (e.added - 1) ≡ Some (AddEndpoint e.name e.labels e.address))
added-by options requests e there = told requests e.added _ ((remembered options requests).endpoints e (In-from_Contains (state_of options requests).endpoints e there))

pub applied-by : (options : Options) (requests : List Request) (p : Stamped) → Contains (state_of options requests).policies p
    → (0 < p.stamp) × (slice_get requests (p.stamp - 1) ≡ Some (Apply p.policy))
applied-by options requests p there = told requests p.stamp _ ((remembered options requests).policies p (In-from_Contains (state_of options requests).policies p there))
