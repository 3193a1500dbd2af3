-- In a state that keeps what states keep, no number is greater than the last one that prefixes take.
use Rattle.std.proofs.Common.{◌≡◌, ◌⊎◌, inl, inr, ℕ, ◌≤◌, Bool, true, false, if◌then◌else◌, List, [], ◌∷◌, take, drop, nat_le, Option, None, Some, option_map, refl, sym, subst, arith}
use Rattle.std.proofs.lemmas.List.{take-append-drop}
use Rattle.std.specs.List.{AllByRecursion, cons_option}
use Rattle.std.specs.Option.{option_map_or}
use Rattle.pol_addr.specs.declared.address.Addr.{Addr}
use Rattle.pol_addr.specs.declared.family.Family.{Family}
use Rattle.pol_addr.specs.declared.family.Family.TheVariants.{Ipv4, Ipv6}
use Rattle.pol_addr.specs.declared.network.Prefix.{Prefix}
use Rattle.pol_addr.specs.Address.{family_of, same_addr}
use Rattle.pol_addr.specs.Longest.{longer, longest_of}
use Rattle.pol_addr.specs.Prefix.{contains}
use Rattle.pol_data.proofs.Every.{every-append, every-found, every-weaker}
use Rattle.pol_model.specs.Identities.{reserved_identities}
use Rattle.pol_model.specs.Remote.{endpoint_at, longest_at, number_at, numbered_prefixes}
use Rattle.pol_model.specs.State.{State}
use Rattle.pol_model.specs.Worlds.{world_in, world_of}
use Rattle.pol_model.specs.declared.limits.TheConstants.{INIT_IDENTITY, LOCAL_LAST, RESERVED_LAST}
use Rattle.pol_model.specs.declared.row.Endpoint.{Endpoint}
use Rattle.pol_model.specs.declared.row.IdentityRow.{IdentityRow}
use Rattle.pol_model_laws.specs.Keeps.{IsClusterNumber, IsClusterRow, IsLiveIn, IsLocalRow, Keeps, KeepsRows}

abbrev pub IsSmall : ℕ → Type 0
IsSmall number = number ≤ LOCAL_LAST

abbrev pub IsSmallRow : IdentityRow → Type 0
IsSmallRow row = IsSmall row.number

abbrev pub AreSmall : List IdentityRow → Type 0
AreSmall rows = AllByRecursion IsSmallRow rows

-- ---- states

abbrev IsSmallEndpoint : Endpoint → Type 0
IsSmallEndpoint endpoint = IsSmall endpoint.identity

pub record IsSmallState (s : State) : Type 0 where
  pub rows : AreSmall s.identities
  pub endpoints : AllByRecursion IsSmallEndpoint s.endpoints

reserved_small : AreSmall reserved_identities
reserved_small = (omega arith, (omega arith, (omega arith, (omega arith, (omega arith, (omega arith, (omega arith, (omega arith, (omega arith, (omega arith, tt))))))))))

kind_small : (row : IdentityRow) → IsClusterRow row ⊎ IsLocalRow row → IsSmallRow row
kind_small row (inl cluster) = let upto = cluster.number.1 in omega (arith, upto)
kind_small row (inr local) = local.upto

rows_small : (rows : List IdentityRow) → KeepsRows rows → AreSmall rows
rows_small rows keeps =
    let others = drop RESERVED_LAST rows in
    let first : AreSmall (take RESERVED_LAST rows) = subst AreSmall (sym keeps.reserved) reserved_small in
    let rest : AreSmall others = every-weaker (λ row. IsClusterRow row ⊎ IsLocalRow row) IsSmallRow kind_small others keeps.kinds in
    subst AreSmall (take-append-drop RESERVED_LAST rows) (every-append IsSmallRow (take RESERVED_LAST rows) others first rest)

endpoint_small : (s : State) (endpoint : Endpoint) → IsLiveIn s endpoint → IsSmallEndpoint endpoint
endpoint_small s endpoint live = by_number live.number
  where
    by_number : (endpoint.identity ≡ INIT_IDENTITY) ⊎ IsClusterNumber endpoint.identity → IsSmallEndpoint endpoint
    by_number (inl init) = omega (arith, init)
    by_number (inr cluster) = let upto = cluster.1 in omega (arith, upto)

-- what states keep bounds their numbers
pub keeps_small : (s : State) → Keeps s → IsSmallState s
keeps_small s keeps = record {
  rows = rows_small s.identities keeps.identities;
  endpoints = every-weaker (IsLiveIn s) IsSmallEndpoint (endpoint_small s) s.endpoints keeps.endpoints;
}

-- ---- the number of an address

abbrev IsSmallFound : Prefix × ℕ → Type 0
IsSmallFound found = IsSmall found.1

abbrev IfSmall : {X : Type 0} → (X → Type 0) → Option X → Type 0
IfSmall P None = Unit {0}
IfSmall P (Some x) = P x

numbered_one : (row : IdentityRow) (o : Option Prefix) (others : List (Prefix × ℕ)) → IsSmallRow row → AllByRecursion IsSmallFound others
    → AllByRecursion IsSmallFound (cons_option (option_map (λ prefix. (prefix, row.number)) o) others)
numbered_one row None others own small = small
numbered_one row (Some prefix) others own small = (own, small)

numbered_small : (rows : List IdentityRow) → AreSmall rows → AllByRecursion IsSmallFound (numbered_prefixes rows)
numbered_small [] small = tt
numbered_small (row ∷ rows) small = numbered_one row row.prefix (numbered_prefixes rows) small.0 (numbered_small rows small.1)

chosen : (b : Bool) (x y : Prefix × ℕ) → IsSmallFound x → IsSmallFound y → IfSmall IsSmallFound (if b then Some x else Some y)
chosen true x y one other = one
chosen false x y one other = other

longer_small : (e : Prefix × ℕ) (o : Option (Prefix × ℕ)) → IsSmallFound e → IfSmall IsSmallFound o → IfSmall IsSmallFound (longer e o)
longer_small e None own small = own
longer_small e (Some best) own small = chosen (nat_le best.0.len e.0.len) e best own small

longest_by : (b : Bool) (e : Prefix × ℕ) (o : Option (Prefix × ℕ)) → IsSmallFound e → IfSmall IsSmallFound o → IfSmall IsSmallFound (if b then longer e o else o)
longest_by true e o own small = longer_small e o own small
longest_by false e o own small = small

longest_small : (address : Addr) (es : List (Prefix × ℕ)) → AllByRecursion IsSmallFound es → IfSmall IsSmallFound (longest_of address es)
longest_small address [] small = tt
longest_small address (e ∷ es) small = longest_by (contains e.0 address) e (longest_of address es) small.0 (longest_small address es small.1)

world_small : (family : Family) → IsSmall (world_in family).identity
world_small Ipv4 = omega arith
world_small Ipv6 = omega arith

outside_small : (address : Addr) (o : Option (Prefix × ℕ)) → IfSmall IsSmallFound o → IsSmall (option_map_or (λ (found : Prefix × ℕ). found.1) o (world_of address).identity)
outside_small address None small = world_small (family_of address)
outside_small address (Some found) small = small

address_small : (s : State) (address : Addr) (o : Option Endpoint) → endpoint_at address s.endpoints ≡ o → IsSmallState s
    → IsSmall (option_map_or (λ (e : Endpoint). e.identity) o (option_map_or (λ (found : Prefix × ℕ). found.1) (longest_at address s.identities) (world_of address).identity))
address_small s address None is small = outside_small address (longest_at address s.identities) (longest_small address (numbered_prefixes s.identities) (numbered_small s.identities small.rows))
address_small s address (Some endpoint) is small = every-found IsSmallEndpoint (λ (e : Endpoint). same_addr e.address address) s.endpoints endpoint small.endpoints is

pub at_small : (s : State) (address : Addr) → IsSmallState s → IsSmall (number_at address s.endpoints s.identities)
at_small s address small = address_small s address (endpoint_at address s.endpoints) refl small
