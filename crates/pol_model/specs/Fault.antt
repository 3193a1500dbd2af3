-- Why a request is refused in a state: the first fault that holds, in the stated order ('profile').
use Rattle.std.specs.Prelude.{ℕ, ◌+◌, ◌&&◌, not, nat_lt, nat_le, Bool, if◌then◌else◌, List, [], ◌∷◌, codes, length, count_by, Option, None, Some, is_some, is_none}
use Rattle.std.specs.List.{list_any}
use Rattle.std.specs.Str.{bytes_eq}
use Rattle.pol_addr.specs.declared.address.Addr.{Addr}
use Rattle.pol_addr.specs.Address.{same_addr}
use Rattle.pol_addr.specs.declared.network.Prefix.{Prefix}
use Rattle.pol_labels.specs.declared.label.Label.{Label}
use Rattle.pol_labels.specs.Same.{same_labels}
use Rattle.pol_rule.specs.Prefixes.{policy_prefixes}
use Rattle.pol_model.specs.declared.answer.Fault.{Fault}
use Rattle.pol_model.specs.declared.answer.Fault.TheVariants as fault
use Rattle.pol_model.specs.declared.limits.TheConstants.{CLUSTER_FIRST, CLUSTER_LAST, ENDPOINTS_MAX, LOCAL_IDENTITIES}
use Rattle.pol_model.specs.declared.request.Request.{Request}
use Rattle.pol_model.specs.declared.request.Request.TheVariants.{AddEndpoint, RemoveEndpoint, AddIdentity, RemoveIdentity, Apply, Remove, SetMode}
use Rattle.pol_model.specs.declared.row.Endpoint.{Endpoint}
use Rattle.pol_model.specs.declared.row.IdentityRow.{IdentityRow}
use Rattle.pol_model.specs.State.{State}
use Rattle.pol_model.specs.Identities.{is_local, free_number, number_of_labels}
use Rattle.pol_model.specs.Prefixes.{number_of_prefix}
use Rattle.pol_model.specs.Policies.{policy_at}
use Rattle.pol_model.specs.Endpoints.{endpoint_of, named_of}
use Rattle.pol_model.specs.Worlds.{reserved_label}

-- the fault, where this holds, and else what follows
abbrev pub fault_if : Bool → Fault → Option Fault → Option Fault
fault_if holds this others = if holds then Some this else others

abbrev pub has_reserved : List Label → Bool
has_reserved labels = list_any (λ label. bytes_eq label.source (codes "reserved")) labels

-- an endpoint that has no labels yet
abbrev pub is_init : List Label → Bool
is_init labels = same_labels labels (reserved_label (codes "init") ∷ [])

-- a live endpoint has the address
abbrev pub is_taken : List Endpoint → Addr → Bool
is_taken endpoints address = list_any (λ endpoint. same_addr endpoint.address address) endpoints

-- all numbers of the cluster are held, and the label set has none
abbrev pub is_exhausted : List Label → List IdentityRow → Bool
is_exhausted labels rows = is_none (number_of_labels labels rows) && nat_lt CLUSTER_LAST (free_number CLUSTER_FIRST rows)

-- how many numbers prefixes hold, and how many of these prefixes have none
abbrev pub locals_held : List IdentityRow → ℕ
locals_held rows = count_by (λ row. is_local row.number) rows

abbrev pub locals_wanted : List IdentityRow → List Prefix → ℕ
locals_wanted rows prefixes = count_by (λ prefix. is_none (number_of_prefix prefix rows)) prefixes

abbrev pub fault_of : State → Request → Option Fault
fault_of s (AddEndpoint name labels address) =
    fault_if (has_reserved labels && not (is_init labels)) fault.ReservedLabel
    (fault_if (is_some (endpoint_of name s.endpoints)) fault.DuplicateEndpoint
    (fault_if (nat_le ENDPOINTS_MAX (length s.endpoints)) fault.EndpointsFull
    (fault_if (is_taken s.endpoints address) fault.AddressTaken
    (fault_if (is_exhausted labels s.identities) fault.IdentitiesExhausted None))))
fault_of s (RemoveEndpoint name) =
    fault_if (is_none (endpoint_of name s.endpoints)) fault.UnknownEndpoint None
fault_of s (AddIdentity name labels) =
    fault_if (has_reserved labels) fault.ReservedLabel
    (fault_if (is_some (named_of name s.named)) fault.DuplicateIdentityName
    (fault_if (is_exhausted labels s.identities) fault.IdentitiesExhausted None))
fault_of s (RemoveIdentity name) =
    fault_if (is_none (named_of name s.named)) fault.UnknownIdentityName None
fault_of s (Apply policy) =
    fault_if (nat_lt LOCAL_IDENTITIES (locals_held s.identities + locals_wanted s.identities (policy_prefixes policy))) fault.LocalExhausted None
fault_of s (Remove key) =
    fault_if (is_none (policy_at key s.policies)) fault.UnknownPolicy None
fault_of s (SetMode mode) = None
