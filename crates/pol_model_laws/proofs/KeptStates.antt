-- What each state keeps, by one induction over the requests.
use Rattle.std.proofs.Common.{◌≡◌, ℕ, ◌+◌, ◌==◌, ◌<◌, ◌≤◌, Bool, true, false, not, cond, List, [], ◌∷◌, map, filter, count_by, nat_lt, nat_le, length, None, ◌⊎◌, inl, inr, ⊎_elim, refl, sym, ap, ◌∙◌, subst, arith}
use Rattle.std.specs.Cmp.Lexicographic.{bytes_decides}
use Rattle.std.specs.List.{AllByRecursion, IsDistinct}
use Rattle.std.specs.Str.{bytes_eq}
use Rattle.std.proofs.lemmas.Bool.{and_left, both_ways, cases_Bool, eq-eqb}
use Rattle.std.proofs.lemmas.List.{length-append}
use Rattle.std.proofs.lemmas.List.Edits.{length-insert}
use Rattle.std.proofs.lemmas.List.Sums.{count_by-le-length, length-filter, sum_by-cons}
use Rattle.pol_addr.specs.Address.{IsAddr, same_addr}
use Rattle.pol_addr.specs.Cidr.{IsPrefix}
use Rattle.pol_addr.specs.declared.address.Addr.{Addr}
use Rattle.pol_labels.specs.declared.label.Label.{Label}
use Rattle.pol_labels.specs.Order.{IsLabelSet}
use Rattle.pol_data.proofs.Members.{In}
use Rattle.pol_rule.specs.Prefixes.{policy_prefixes}
use Rattle.pol_model.specs.declared.limits.TheConstants.{ENDPOINTS_MAX, INIT_IDENTITY}
use Rattle.pol_model.specs.declared.request.Request.{Request}
use Rattle.pol_model.specs.declared.request.Request.TheVariants.{AddEndpoint, RemoveEndpoint, AddIdentity, RemoveIdentity, Apply, Remove, SetMode}
use Rattle.pol_model.specs.declared.row.Endpoint.{Endpoint}
use Rattle.pol_model.specs.declared.row.IdentityRow.{IdentityRow}
use Rattle.pol_model.specs.declared.row.NamedIdentity.{NamedIdentity}
use Rattle.pol_model.specs.declared.row.Stamped.{Stamped}
use Rattle.pol_model.specs.After.{after, new_endpoint}
use Rattle.pol_model.specs.Ascending.{Ascends}
use Rattle.pol_model.specs.Fault.{has_reserved}
use Rattle.pol_model_laws.specs.Holding.{has_row}
use Rattle.pol_model.specs.Identities.{labels_held, number_for}
use Rattle.pol_model_laws.specs.Keeps.{IsClusterNumber}
use Rattle.pol_model.specs.Policies.{applied, is_of_key}
use Rattle.pol_model.specs.State.{State}
use Rattle.pol_model_laws.specs.WithoutFaults.{MayCommit}
use Rattle.pol_model_laws.proofs.KeptRows.{KeptRows, NamesDiffer, kept_rows}
use Rattle.pol_model.proofs.AscendingStates.{changed_ascend}
use Rattle.pol_model_laws.proofs.Distinct.{differ_filtered, differ_inserted, differ_pushed}
use Rattle.pol_model_laws.proofs.HeldRow.{held_number, held_row, init_reserved}
use Rattle.pol_model_laws.proofs.Keyed.{In-placed}
use Rattle.pol_addr.proofs.ByFamily.{same_addr-Decides}
use Rattle.pol_model_laws.proofs.PolicyHolders.{applied_differ, same_key-Decides}
use Rattle.pol_model_laws.proofs.NoFault.{add_endpoint, add_identity}
use Rattle.pol_model_laws.proofs.PartStates.{row_before}
use Rattle.pol_model_laws.proofs.PrefixHolders.{least_free-within}
use Rattle.pol_model_laws.proofs.Membership.{In-append, In-filter}

-- a live endpoint: each row of its number has its labels and no prefix
pub record KeptEndpoint (revision : ℕ) (rows : List IdentityRow) (endpoint : Endpoint) : Type 0 where
  pub added : (0 < endpoint.added) × (endpoint.added ≤ revision)
  pub slot : endpoint.slot < ENDPOINTS_MAX
  pub label_set : IsLabelSet endpoint.labels
  pub address : IsAddr endpoint.address
  pub number : (endpoint.identity ≡ INIT_IDENTITY) ⊎ IsClusterNumber endpoint.identity
  pub row : (row : IdentityRow) → In row rows → row.number ≡ endpoint.identity → (row.labels ≡ endpoint.labels) × (row.prefix ≡ None)

-- a policy in force
pub record KeptPolicy (revision : ℕ) (stamped : Stamped) : Type 0 where
  pub stamp : (0 < stamped.stamp) × (stamped.stamp ≤ revision)
  pub within : AllByRecursion IsPrefix (policy_prefixes stamped.policy)

pub record Kept (s : State) : Type 0 where
  pub rows : KeptRows s
  pub differ : NamesDiffer s
  pub slots : Ascends (map (λ endpoint. endpoint.slot) s.endpoints)
  pub addresses : IsDistinct same_addr (map (λ endpoint. endpoint.address) s.endpoints)
  pub endpoints : (endpoint : Endpoint) → In endpoint s.endpoints → KeptEndpoint s.revision s.identities endpoint
  pub named : (identity : NamedIdentity) → In identity s.named → IsClusterNumber identity.number
  pub policies : (stamped : Stamped) → In stamped s.policies → KeptPolicy s.revision stamped
  pub commits : length s.endpoints + length s.named + length s.policies ≤ s.revision

-- one that is there is counted
pub counted_In : {X : Type 0} (p : X → Bool) (x : X) (xs : List X) → In x xs → p x ≡ true → 0 < count_by p xs
counted_In p x [] there passes = elim there [ ]
counted_In p x (y ∷ ys) (inl same) passes =
    let here = ap {B = ℕ} (λ b. cond b 1 0) (subst (λ z. p z ≡ true) (sym same) passes) in
    omega (arith, sum_by-cons (λ z. cond (p z) 1 0) y ys, here)
counted_In p x (y ∷ ys) (inr later) passes =
    omega (arith, sum_by-cons (λ z. cond (p z) 1 0) y ys, counted_In p x ys later passes)

-- each number that is held has a row
pub endpoint_row : (s : State) → KeptRows s → (endpoint : Endpoint) → In endpoint s.endpoints → has_row endpoint.identity s.identities ≡ true
endpoint_row s kept endpoint there =
    elim (cases_Bool (has_row endpoint.identity s.identities)) [
      | inl has ↦ has
      | inr none ↦
          let nobody = kept.ledger.numbers_there endpoint.identity none in
          let one = counted_In (λ e. e.identity == endpoint.identity) endpoint s.endpoints there (eq-eqb endpoint.identity endpoint.identity refl) in
          absurd (omega (arith, nobody, one))
    ]

pub named_row : (s : State) → KeptRows s → (identity : NamedIdentity) → In identity s.named → has_row identity.number s.identities ≡ true
named_row s kept identity there =
    elim (cases_Bool (has_row identity.number s.identities)) [
      | inl has ↦ has
      | inr none ↦
          let nobody = kept.ledger.numbers_there identity.number none in
          let one = counted_In (λ i. i.number == identity.number) identity s.named there (eq-eqb identity.number identity.number refl) in
          absurd (omega (arith, nobody, one))
    ]

-- an endpoint of before stays as it is
endpoint_stays : (s : State) (request : Request) → KeptRows s → (endpoint : Endpoint) → In endpoint s.endpoints → KeptEndpoint s.revision s.identities endpoint
    → KeptEndpoint (s.revision + 1) (after s request).identities endpoint
endpoint_stays s request rows endpoint there kept = record {
  added = (kept.added.0, let upto = kept.added.1 in omega (arith, upto));
  slot = kept.slot;
  label_set = kept.label_set;
  address = kept.address;
  number = kept.number;
  row = λ row now same.
      let old = row_before s request rows.ledger.ascend row now (subst (λ n. has_row n s.identities ≡ true) (sym same) (endpoint_row s rows endpoint there)) in
      let was = kept.row old.0 old.1 (ap (λ r. r.number) old.2 ∙ same) in
      (sym (ap (λ r. r.labels) old.2) ∙ was.0, sym (ap (λ r. r.prefix) old.2) ∙ was.1);
}

policy_stays : (s : State) (stamped : Stamped) → KeptPolicy s.revision stamped → KeptPolicy (s.revision + 1) stamped
policy_stays s stamped kept = record {
  stamp = (kept.stamp.0, let upto = kept.stamp.1 in omega (arith, upto));
  within = kept.within;
}

-- what an added endpoint has
endpoint_new : (s : State) (name : List ℕ) (labels : List Label) (address : Addr) → MayCommit s (AddEndpoint name labels address) → KeptRows s
    → KeptEndpoint (s.revision + 1) (labels_held labels s.identities) (new_endpoint s name labels address)
endpoint_new s name labels address may rows =
    let can = add_endpoint s name labels address may.no_fault in
    record {
      added = (omega arith, omega arith);
      slot = omega (arith, can.room, least_free-within (λ endpoint. endpoint.slot) 0 s.endpoints, count_by-le-length (λ endpoint. nat_le 0 endpoint.slot) s.endpoints);
      label_set = may.valid.0;
      address = may.valid.1;
      number = ⊎_elim (λ init. inl init.1) (λ cluster. inr cluster) (held_number rows.ledger labels can.allowed can.number_left);
      row = λ row there its.
          let has = held_row rows.ledger labels can.allowed can.number_left row there its in
          (has.labels_are, has.no_prefix);
    }

-- the endpoints after a request
endpoints_kept : (s : State) (request : Request) → MayCommit s request → Kept s → (endpoint : Endpoint) → In endpoint (after s request).endpoints
    → KeptEndpoint (s.revision + 1) (after s request).identities endpoint
endpoints_kept s (AddEndpoint name labels address) may kept endpoint there =
    elim (In-placed (λ e. e.slot) (new_endpoint s name labels address) endpoint s.endpoints there) [
      | inl new ↦ subst (KeptEndpoint (s.revision + 1) (labels_held labels s.identities)) new (endpoint_new s name labels address may kept.rows)
      | inr old ↦ endpoint_stays s (AddEndpoint name labels address) kept.rows endpoint old (kept.endpoints endpoint old)
    ]
endpoints_kept s (RemoveEndpoint name) may kept endpoint there =
    let old = (In-filter (λ e. not (bytes_eq e.name name)) endpoint s.endpoints there).0 in
    endpoint_stays s (RemoveEndpoint name) kept.rows endpoint old (kept.endpoints endpoint old)
endpoints_kept s (AddIdentity name labels) may kept endpoint there = endpoint_stays s (AddIdentity name labels) kept.rows endpoint there (kept.endpoints endpoint there)
endpoints_kept s (RemoveIdentity name) may kept endpoint there = endpoint_stays s (RemoveIdentity name) kept.rows endpoint there (kept.endpoints endpoint there)
endpoints_kept s (Apply policy) may kept endpoint there = endpoint_stays s (Apply policy) kept.rows endpoint there (kept.endpoints endpoint there)
endpoints_kept s (Remove key) may kept endpoint there = endpoint_stays s (Remove key) kept.rows endpoint there (kept.endpoints endpoint there)
endpoints_kept s (SetMode mode) may kept endpoint there = endpoint_stays s (SetMode mode) kept.rows endpoint there (kept.endpoints endpoint there)

-- the named identities
named_new : (s : State) (name : List ℕ) (labels : List Label) → MayCommit s (AddIdentity name labels) → KeptRows s → IsClusterNumber (number_for labels s.identities)
named_new s name labels may rows =
    let can = add_identity s name labels may.no_fault in
    ⊎_elim (λ init. absurd (both_ways (has_reserved labels) can.unreserved (init_reserved labels init.0))) (λ cluster. cluster)
    (held_number rows.ledger labels (and_left (has_reserved labels) _ can.unreserved) can.number_left)

named_kept : (s : State) (request : Request) → MayCommit s request → Kept s → (identity : NamedIdentity) → In identity (after s request).named → IsClusterNumber identity.number
named_kept s (AddEndpoint name labels address) may kept identity there = kept.named identity there
named_kept s (RemoveEndpoint name) may kept identity there = kept.named identity there
named_kept s (AddIdentity name labels) may kept identity there =
    elim (In-append identity s.named _ there) [
      | inl old ↦ kept.named identity old
      | inr added ↦ elim added [
        | inl new ↦ subst (λ i. IsClusterNumber i.number) new (named_new s name labels may kept.rows)
        | inr none ↦ absurd none
      ]
    ]
named_kept s (RemoveIdentity name) may kept identity there = kept.named identity (In-filter (λ i. not (bytes_eq i.name name)) identity s.named there).0
named_kept s (Apply policy) may kept identity there = kept.named identity there
named_kept s (Remove key) may kept identity there = kept.named identity there
named_kept s (SetMode mode) may kept identity there = kept.named identity there

-- the policies
pub In-applied : (new stamped : Stamped) (policies : List Stamped) → In stamped (applied new policies) → (new ≡ stamped) ⊎ In stamped policies
In-applied new stamped [] (inl same) = inl same
In-applied new stamped [] (inr none) = absurd none
In-applied new stamped (old ∷ others) there = placed (is_of_key new.policy.key old) there (In-applied new stamped others)
  where
    placed : (b : Bool) → In stamped (cond b (new ∷ others) (old ∷ applied new others)) → (In stamped (applied new others) → (new ≡ stamped) ⊎ In stamped others) → (new ≡ stamped) ⊎ In stamped (old ∷ others)
    placed true (inl same) rest = inl same
    placed true (inr later) rest = inr (inr later)
    placed false (inl same) rest = inr (inl same)
    placed false (inr later) rest = ⊎_elim (λ new. inl new) (λ old. inr (inr old)) (rest later)

policies_kept : (s : State) (request : Request) → MayCommit s request → Kept s → (stamped : Stamped) → In stamped (after s request).policies → KeptPolicy (s.revision + 1) stamped
policies_kept s (AddEndpoint name labels address) may kept stamped there = policy_stays s stamped (kept.policies stamped there)
policies_kept s (RemoveEndpoint name) may kept stamped there = policy_stays s stamped (kept.policies stamped there)
policies_kept s (AddIdentity name labels) may kept stamped there = policy_stays s stamped (kept.policies stamped there)
policies_kept s (RemoveIdentity name) may kept stamped there = policy_stays s stamped (kept.policies stamped there)
policies_kept s (Apply policy) may kept stamped there =
    elim (In-applied (record { policy = policy; stamp = s.revision + 1 }) stamped s.policies there) [
      | inl new ↦ subst (KeptPolicy (s.revision + 1)) new (record { stamp = (omega arith, omega arith); within = may.valid })
      | inr old ↦ policy_stays s stamped (kept.policies stamped old)
    ]
policies_kept s (Remove key) may kept stamped there = policy_stays s stamped (kept.policies stamped (In-filter (λ p. not (is_of_key key p)) stamped s.policies there).0)
policies_kept s (SetMode mode) may kept stamped there = policy_stays s stamped (kept.policies stamped there)

-- names, keys and addresses
names_kept : (s : State) (request : Request) → MayCommit s request → NamesDiffer s → NamesDiffer (after s request)
names_kept s (AddEndpoint name labels address) may differ =
    let new = new_endpoint s name labels address in
    let can = add_endpoint s name labels address may.no_fault in
    record {
      endpoints = differ_inserted (λ e. e.name) bytes_decides new (count_by (λ e. nat_lt e.slot new.slot) s.endpoints) s.endpoints can.name_free differ.endpoints;
      named = differ.named;
      policies = differ.policies;
    }
names_kept s (RemoveEndpoint name) may differ = record {
  endpoints = differ_filtered (λ e. e.name) bytes_decides (λ e. not (bytes_eq e.name name)) s.endpoints differ.endpoints;
  named = differ.named;
  policies = differ.policies;
}
names_kept s (AddIdentity name labels) may differ = record {
  endpoints = differ.endpoints;
  named = differ_pushed (λ i. i.name) bytes_decides _ s.named (add_identity s name labels may.no_fault).name_free differ.named;
  policies = differ.policies;
}
names_kept s (RemoveIdentity name) may differ = record {
  endpoints = differ.endpoints;
  named = differ_filtered (λ i. i.name) bytes_decides (λ i. not (bytes_eq i.name name)) s.named differ.named;
  policies = differ.policies;
}
names_kept s (Apply policy) may differ = record {
  endpoints = differ.endpoints;
  named = differ.named;
  policies = applied_differ (record { policy = policy; stamp = s.revision + 1 }) s.policies differ.policies;
}
names_kept s (Remove key) may differ = record {
  endpoints = differ.endpoints;
  named = differ.named;
  policies = differ_filtered (λ p. p.policy.key) same_key-Decides (λ p. not (is_of_key key p)) s.policies differ.policies;
}
names_kept s (SetMode mode) may differ = record { endpoints = differ.endpoints; named = differ.named; policies = differ.policies }

addresses_kept : (s : State) (request : Request) → MayCommit s request → Kept s → IsDistinct same_addr (map (λ e. e.address) (after s request).endpoints)
addresses_kept s (AddEndpoint name labels address) may kept =
    let new = new_endpoint s name labels address in
    differ_inserted (λ e. e.address) same_addr-Decides new (count_by (λ e. nat_lt e.slot new.slot) s.endpoints) s.endpoints (add_endpoint s name labels address may.no_fault).address_free kept.addresses
addresses_kept s (RemoveEndpoint name) may kept = differ_filtered (λ e. e.address) same_addr-Decides (λ e. not (bytes_eq e.name name)) s.endpoints kept.addresses
addresses_kept s (AddIdentity name labels) may kept = kept.addresses
addresses_kept s (RemoveIdentity name) may kept = kept.addresses
addresses_kept s (Apply policy) may kept = kept.addresses
addresses_kept s (Remove key) may kept = kept.addresses
addresses_kept s (SetMode mode) may kept = kept.addresses

-- each request adds one thing that holds at most
fewer : {X : Type 0} (p : X → Bool) (xs : List X) → length (filter p xs) ≤ length xs
fewer p xs = rw (length-filter p xs) (count_by-le-length p xs)

one_applied : (new : Stamped) (policies : List Stamped) → length (applied new policies) ≤ length policies + 1
one_applied new [] = omega arith
one_applied new (old ∷ others) = placed (is_of_key new.policy.key old) (one_applied new others)
  where
    placed : (b : Bool) → length (applied new others) ≤ length others + 1 → length (cond b (new ∷ others) (old ∷ applied new others)) ≤ length (old ∷ others) + 1
    placed true rest = omega arith
    placed false rest = omega (arith, rest)

commits_kept : (s : State) (request : Request) → length s.endpoints + length s.named + length s.policies ≤ s.revision
    → length (after s request).endpoints + length (after s request).named + length (after s request).policies ≤ s.revision + 1
commits_kept s (AddEndpoint name labels address) fits =
    let new = new_endpoint s name labels address in
    let place = count_by (λ e. nat_lt e.slot new.slot) s.endpoints in
    omega (arith, fits, length-insert s.endpoints place new (count_by-le-length (λ e. nat_lt e.slot new.slot) s.endpoints))
commits_kept s (RemoveEndpoint name) fits = omega (arith, fits, fewer (λ e. not (bytes_eq e.name name)) s.endpoints)
commits_kept s (AddIdentity name labels) fits =
    let new : NamedIdentity = record { name = name; number = number_for labels s.identities } in
    omega (arith, fits, length-append s.named (new ∷ []))
commits_kept s (RemoveIdentity name) fits = omega (arith, fits, fewer (λ i. not (bytes_eq i.name name)) s.named)
commits_kept s (Apply policy) fits = omega (arith, fits, one_applied (record { policy = policy; stamp = s.revision + 1 }) s.policies)
commits_kept s (Remove key) fits = omega (arith, fits, fewer (λ p. not (is_of_key key p)) s.policies)
commits_kept s (SetMode mode) fits = omega (arith, fits)

pub kept_after : (s : State) (request : Request) → MayCommit s request → Kept s → Kept (after s request)
kept_after s request may kept = record {
  rows = kept_rows s request may kept.rows kept.differ;
  differ = names_kept s request may kept.differ;
  slots = (changed_ascend s request (record { rows = kept.rows.ledger.ascend; slots = kept.slots })).slots;
  addresses = addresses_kept s request may kept;
  endpoints = endpoints_kept s request may kept;
  named = named_kept s request may kept;
  policies = policies_kept s request may kept;
  commits = commits_kept s request kept.commits;
}
