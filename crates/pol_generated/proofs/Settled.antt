-- The states of a generated script: while its endpoints come, and once they are there.
use Rattle.std.proofs.Common.{◌≡◌, ℕ, ◌+◌, ◌<◌, ◌≤◌, Bool, true, false, nat_le, nat_lt, List, [], ◌∷◌, length, insert, count_by, None, is_some, bytes_eq, inl, inr, refl, sym, ap, ◌∙◌, subst, arith}
use Rattle.std.proofs.lemmas.Bool.{cases_eq, lt-leb, ne_eqb}
use Rattle.std.proofs.lemmas.Fmt.{decimal_injective}
use Rattle.std.specs.Cmp.Lexicographic.{bytes_decides}
use Rattle.std.specs.Fmt.{decimal}
use Rattle.std.specs.List.{AllByRecursion, list_any}
use Rattle.std.specs.List.Sorted.{IsStrictlySortedBy}
use Rattle.pol_addr.specs.Address.{bits_of, same_addr}
use Rattle.pol_addr.specs.declared.address.Addr.{Addr}
use Rattle.pol_addr.specs.declared.network.Prefix.{Prefix}
use Rattle.pol_model_laws.proofs.Membership.{In-list_any, found-some, insert-here, insert-kept, list_any-In}
use Rattle.pol_model_laws.specs.WithoutFaults.{MayCommit}
use Rattle.pol_labels.specs.Order.{IsLabelSet}
use Rattle.pol_model.specs.After.{after, new_endpoint}
use Rattle.pol_model.specs.Endpoints.{endpoint_of}
use Rattle.pol_model.specs.Fault.{fault_if, is_exhausted, is_taken, locals_held}
use Rattle.pol_model.specs.Policies.{policy_at, prefixes_of}
use Rattle.pol_model.specs.Prefixes.{prefixes_held, prefixes_released}
use Rattle.pol_model.specs.State.{State}
use Rattle.pol_model.specs.declared.answer.Fault.{Fault}
use Rattle.pol_model.specs.declared.answer.Fault.TheVariants as fault
use Rattle.pol_model.specs.declared.limits.TheConstants.{ENDPOINTS_MAX, LOCAL_IDENTITIES}
use Rattle.pol_model.specs.declared.request.Request.TheVariants.{AddEndpoint, Apply}
use Rattle.pol_model.specs.declared.row.Endpoint.{Endpoint}
use Rattle.pol_rule.specs.Prefixes.{policy_prefixes}
use Rattle.pol_rule.specs.declared.policy.Policy.{Policy}
use Rattle.pol_run.proofs.Lists.{every_weaker}
use Rattle.pol_run.proofs.States.{every_inserted}
use Rattle.pol_generated.specs.Asked.{endpoint_name, host_address, labels_of}
use Rattle.pol_generated.proofs.FewRows.{inserted_length, labels_held_length, number_left, prefixes_released_length, room_left}
use Rattle.pol_generated.proofs.Plays.{LivesIn}

-- ---- names and addresses

-- the endpoint is one of the first so many
abbrev IsOneOf : ℕ → Endpoint → Type 0
IsOneOf count endpoint = (j : ℕ) × (j < count) × (endpoint.name ≡ endpoint_name j) × (endpoint.address ≡ host_address (j + 1))

-- so many endpoints have come
pub record Added (count : ℕ) (s : State) : Type 0 where
  pub endpoints : AllByRecursion (IsOneOf count) s.endpoints
  pub there : (j : ℕ) → j < count → list_any (λ (e : Endpoint). bytes_eq e.name (endpoint_name j)) s.endpoints ≡ true
  pub few : length s.endpoints ≤ count
  pub rows : length s.identities ≤ 10 + count

names_differ : (i j : ℕ) → i < 32 → j < 32 → endpoint_name j ≡ endpoint_name i → j ≡ i
names_differ i j low small same =
    let digits : decimal j ≡ decimal i = cc in
    decimal_injective j i (omega (arith, small)) (omega (arith, low)) digits

other_name : (i j : ℕ) (name : List ℕ) (b : Bool) → i < 32 → j < i → name ≡ endpoint_name j → bytes_eq name (endpoint_name i) ≡ b → b ≡ false
other_name i j name false low before is equal = refl
other_name i j name true low before is equal =
    let same : endpoint_name j ≡ endpoint_name i = sym is ∙ (bytes_decides name (endpoint_name i)).0 equal in
    let one : j ≡ i = names_differ i j low (omega (arith, low, before)) same in
    absurd (omega (arith, before, one))

name_free : (i : ℕ) (endpoints : List Endpoint) → i < 32 → AllByRecursion (IsOneOf i) endpoints → is_some (endpoint_of (endpoint_name i) endpoints) ≡ false
name_free i [] low every = refl
name_free i (e ∷ endpoints) low every =
    let other : bytes_eq e.name (endpoint_name i) ≡ false = other_name i every.0.0 e.name (bytes_eq e.name (endpoint_name i)) low every.0.1 every.0.2 refl in
    rw other (name_free i endpoints low every.1)

other_address : (i j : ℕ) (a : Addr) → j < i → a ≡ host_address (j + 1) → same_addr a (host_address (i + 1)) ≡ false
other_address i j a before is =
    subst (λ (x : Addr). same_addr x (host_address (i + 1)) ≡ false) (sym is)
    (ne_eqb (bits_of (host_address (j + 1))) (bits_of (host_address (i + 1))) (λ same. omega (arith, before, same)))

address_free : (i : ℕ) (endpoints : List Endpoint) → AllByRecursion (IsOneOf i) endpoints → is_taken endpoints (host_address (i + 1)) ≡ false
address_free i [] every = refl
address_free i (e ∷ endpoints) every =
    let other : same_addr e.address (host_address (i + 1)) ≡ false = other_address i every.0.0 e.address every.0.1 every.0.3 in
    rw other (address_free i endpoints every.1)

-- ---- an endpoint more

no_faults : (b c d e : Bool) (one two three four : Fault) → b ≡ false → c ≡ false → d ≡ false → e ≡ false
    → fault_if b one (fault_if c two (fault_if d three (fault_if e four None))) ≡ None
no_faults b c d e one two three four first second third fourth = rw (first, second, third, fourth) refl

label_set : (app : ℕ) → IsLabelSet (labels_of app)
unfolding IsStrictlySortedBy
label_set app = ((refl, tt), (tt, tt))

pub endpoint_may : (i app : ℕ) (s : State) → i < 32 → Added i s → MayCommit s (AddEndpoint (endpoint_name i) (labels_of app) (host_address (i + 1)))
endpoint_may i app s low added =
    let few = added.few in
    let rows = added.rows in
    record {
      valid = (label_set app, omega (arith, low));
      no_fault = no_faults (is_some (endpoint_of (endpoint_name i) s.endpoints)) (nat_le ENDPOINTS_MAX (length s.endpoints))
          (is_taken s.endpoints (host_address (i + 1))) (is_exhausted (labels_of app) s.identities) fault.DuplicateEndpoint fault.EndpointsFull
          fault.AddressTaken fault.IdentitiesExhausted (name_free i s.endpoints low added.endpoints) (lt-leb ENDPOINTS_MAX (length s.endpoints) (omega (arith, few, low)))
          (address_free i s.endpoints added.endpoints) (number_left (labels_of app) s.identities (omega (arith, rows, low)));
    }

pub endpoint_added : (i app : ℕ) (s : State) → Added i s → Added (i + 1) (after s (AddEndpoint (endpoint_name i) (labels_of app) (host_address (i + 1))))
endpoint_added i app s added =
    let new = new_endpoint s (endpoint_name i) (labels_of app) (host_address (i + 1)) in
    let place = count_by (λ (y : Endpoint). nat_lt y.slot new.slot) s.endpoints in
    let few = added.few in
    let rows = added.rows in
    record {
      endpoints = every_inserted (IsOneOf (i + 1)) s.endpoints place new (i, omega arith, refl, refl)
          (every_weaker (IsOneOf i) (IsOneOf (i + 1)) (λ e is. let before = is.1 in (is.0, omega (arith, before), is.2, is.3)) s.endpoints added.endpoints);
      there = λ j low.
          elim (cases_eq j i) [
            | inl last ↦
                list_any-In (λ (e : Endpoint). bytes_eq e.name (endpoint_name j)) new (insert s.endpoints place new) (insert-here new place s.endpoints)
                ((bytes_decides (endpoint_name i) (endpoint_name j)).1 (ap endpoint_name (sym last)))
            | inr other ↦
                let old = In-list_any (λ (e : Endpoint). bytes_eq e.name (endpoint_name j)) s.endpoints (added.there j (omega (arith, low, other))) in
                list_any-In (λ (e : Endpoint). bytes_eq e.name (endpoint_name j)) old.0 (insert s.endpoints place new) (insert-kept new old.0 place s.endpoints old.1) old.2
          ];
      few = omega (arith, few, inserted_length s.endpoints place new);
      rows = omega (arith, rows, labels_held_length (labels_of app) s.identities);
    }

-- ---- all are there

pub record Settled (s : State) : Type 0 where
  pub there : (j : ℕ) → j < 32 → list_any (λ (e : Endpoint). bytes_eq e.name (endpoint_name j)) s.endpoints ≡ true
  pub rows : length s.identities ≤ 42

pub all_there : (s : State) → Added 32 s → Settled s
all_there s added = let rows = added.rows in record { there = added.there; rows = omega (arith, rows) }

pub lives : (s : State) (j : ℕ) → Settled s → j < 32 → LivesIn s (endpoint_name j)
lives s j is low = found-some (λ (e : Endpoint). bytes_eq e.name (endpoint_name j)) s.endpoints (is.there j low)

no_fault : (b : Bool) (one : Fault) → b ≡ false → fault_if b one None ≡ None
no_fault b one none = rw none refl

pub policy_may : (policy : Policy) (s : State) → policy_prefixes policy ≡ [] → Settled s → MayCommit s (Apply policy)
policy_may policy s none is =
    let rows = is.rows in
    record {
      valid = rw none tt;
      no_fault = rw none (no_fault (nat_lt LOCAL_IDENTITIES (locals_held s.identities + 0)) fault.LocalExhausted (room_left s.identities (omega (arith, rows))));
    }

pub policy_applied : (policy : Policy) (s : State) → policy_prefixes policy ≡ [] → Settled s → Settled (after s (Apply policy))
policy_applied policy s none is =
    let rows = is.rows in
    let old = prefixes_of (policy_at policy.key s.policies) in
    let fewer : length (prefixes_released old (prefixes_held (policy_prefixes policy) s.identities)) ≤ length s.identities =
    subst (λ (ps : List Prefix). length (prefixes_released old (prefixes_held ps s.identities)) ≤ length s.identities) (sym none) (prefixes_released_length old s.identities) in
    record { there = is.there; rows = omega (arith, rows, fewer) }
