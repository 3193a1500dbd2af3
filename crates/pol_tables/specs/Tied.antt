-- How the parts of a table fit together. No public clause cites this module.
use Rattle.std.specs.Prelude.{ℕ, ◌≡◌, ◌<◌, ◌-◌, ◌^◌, min, List, length, map, option_map}
use Rattle.std.specs.List.{AllByRecursion, IsDistinct}
use Rattle.std.specs.Map.{keys_of, lookup, values_of}
use Rattle.std.specs.String.{string_bytes, string_eq}
use Rattle.std.specs.declared.string.String.{String}
use Rattle.pol_addr.specs.declared.address.Addr.{Addr}
use Rattle.pol_addr.specs.Address.{same_addr}
use Rattle.pol_addr.specs.contracts.address.AddrPartialEq.TheImpl as addr
use Rattle.pol_rule.specs.declared.policy.PolicyKey.{PolicyKey}
use Rattle.pol_rule.specs.contracts.policy.PolicyKeyPartialEq.TheImpl as policy_key
use Rattle.pol_model.specs.declared.limits.TheConstants.{ENDPOINTS_MAX}
use Rattle.pol_model.specs.declared.row.Endpoint.{Endpoint}
use Rattle.pol_model.specs.declared.row.NamedIdentity.{NamedIdentity}
use Rattle.pol_model.specs.declared.row.Stamped.{Stamped}
use Rattle.pol_model.specs.Ascending.{Ascends}
use Rattle.pol_model.specs.Policies.{is_of_key}
use Rattle.pol_model.specs.Remote.{endpoint_at}
use Rattle.pol_tables.specs.Numbered.{PassOnce, number_of}

-- each entry stands under the key of its value
abbrev pub IsKeyed : {K X V : Type 0} → (K → X) → (V → X) → List (K × V) → Type 0
IsKeyed shown key entries = AllByRecursion (λ entry. shown entry.0 ≡ key entry.1) entries

-- Beside each policy stands the number that its key came with; these ascend below the next one, and the index has the
-- number of each key. No two policies have one key.
pub record ArePolicies (rows : List Stamped) (arrivals : List ℕ) (next : ℕ) (by_key : List (PolicyKey × ℕ)) : Type 0 where
  pub long : length arrivals ≡ length rows
  pub ascend : Ascends arrivals
  pub less : AllByRecursion (λ number. number < next) arrivals
  pub once : (key : PolicyKey) → PassOnce (is_of_key key) rows
  pub found : (key : PolicyKey) → lookup (policy_key.ghosts.eq key) by_key ≡ number_of (is_of_key key) rows arrivals

-- for how many more policies each part has room, with so many numbers left
abbrev pub policy_room : ℕ → ℕ → ℕ → ℕ → ℕ
policy_room rows arrivals by_key next = min (min rows arrivals) (min by_key (2 ^ 64 - 1 - next))

-- names with their numbers, as named identities
abbrev pub named_in : {A : Type 0} → List (String A × ℕ) → List NamedIdentity
named_in entries = map (λ entry. record { name = string_bytes entry.0; number = entry.1 }) entries

-- Each endpoint stands under its name, in the order of slots; each address has the slot of the endpoint that has it.
pub record IsEndpoints {A : Type 0} (by_name : List (String A × Endpoint)) (by_address : List (Addr × ℕ)) : Type 0 where
  pub keyed : IsKeyed string_bytes (λ endpoint. endpoint.name) by_name
  pub names : IsDistinct string_eq (keys_of by_name)
  pub slots : Ascends (map (λ endpoint. endpoint.slot) (values_of by_name))
  pub few : AllByRecursion (λ endpoint. endpoint.slot < ENDPOINTS_MAX) (values_of by_name)
  pub addresses : IsDistinct same_addr (map (λ endpoint. endpoint.address) (values_of by_name))
  pub found : (address : Addr) → lookup (addr.ghosts.eq address) by_address ≡ option_map (λ endpoint. endpoint.slot) (endpoint_at address (values_of by_name))
