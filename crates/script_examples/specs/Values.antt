-- Values of JSON, for laws that read them (`documents`, `lines`). The members of an object stand in byte order.
use Rattle.std.specs.Prelude.{◌≡◌, ℕ, Bool, List, [], ◌∷◌, ◌++◌, codes, map, Option, Some, Result, Ok, Err}
use Rattle.serde_json.specs.Data.{Data, string, array, object, Items, no_items, item, Members, no_members, member}
use Rattle.pol_json.specs.Document.{first_fault, read_document}
use Rattle.pol_json.specs.declared.fault.DocFault.{DocFault}
use Rattle.pol_json.specs.declared.fault.DocFault.TheVariants.{UnknownMember, Unsupported}
use Rattle.pol_rule.specs.declared.policy.DefaultDeny.{DefaultDeny}
use Rattle.pol_rule.specs.declared.raw.RawPolicy.{RawPolicy}

abbrev pub members_of : List (List ℕ × Data) → Members
members_of [] = no_members
members_of (one ∷ others) = member one.0 one.1 (members_of others)

abbrev pub items_of : List Data → Items
items_of [] = no_items
items_of (one ∷ others) = item one (items_of others)

-- an object, a list, and a list of one
abbrev pub fields : List (List ℕ × Data) → Data
fields list = object (members_of list)

abbrev pub items : List Data → Data
items list = array (items_of list)

abbrev pub only_item : Data → Data
only_item one = items (one ∷ [])

abbrev pub text : List ℕ → Data
text bytes = string bytes

-- `apiVersion` and `kind` of a policy
abbrev pub headed : List (List ℕ × Data) → Data
headed more = fields ((codes "apiVersion", text (codes "cilium.io/v2")) ∷ (codes "kind", text (codes "CiliumNetworkPolicy")) ∷ more)

-- a policy named `p`, with these members behind its metadata
abbrev pub document : List (List ℕ × Data) → Data
document more = headed ((codes "metadata", fields ((codes "name", text (codes "p")) ∷ [])) ∷ more)

-- a policy of one rule, for every endpoint, with one member more
abbrev pub ruled : List ℕ → Data → Data
ruled name value = document ((codes "spec", fields ((codes "endpointSelector", fields []) ∷ (name, value) ∷ [])) ∷ [])

-- a policy of one rule, for every endpoint, with this `enableDefaultDeny`
abbrev pub denying : Data → Data
denying value = document ((codes "spec", fields ((codes "enableDefaultDeny", value) ∷ (codes "endpointSelector", fields []) ∷ [])) ∷ [])

-- what the rules that are read say of default deny
abbrev told : Result RawPolicy DocFault → Result (List DefaultDeny) DocFault
told (Ok policy) = Ok (map (λ rule. rule.default_deny) policy.rules)
told (Err fault) = Err fault

-- with this `enableDefaultDeny` the rule says so of ingress, and of egress
abbrev pub Says : Data → Option Bool → Option Bool → Type 0
Says value ingress egress = told (read_document (denying value)) ≡ Ok (record { ingress = ingress; egress = egress } ∷ [])

-- with this one the policy is refused
abbrev pub IsRefused : Data → DocFault → Type 0
IsRefused value fault = read_document (denying value) ≡ Err fault

-- a policy of one rule, with one item of `toCIDRSet`
abbrev pub with_cidr_set : List (List ℕ × Data) → Data
with_cidr_set set = ruled (codes "egress") (only_item (fields ((codes "toCIDRSet", only_item (fields set)) ∷ [])))

-- ---- what a policy is refused for by one member, which is an empty list

abbrev empty : List ℕ → List (List ℕ × Data)
empty name = (name, items []) ∷ []

abbrev pub in_rule : List ℕ → Option DocFault
in_rule name = first_fault (ruled name (items []))

abbrev pub in_ingress : List ℕ → Option DocFault
in_ingress name = first_fault (ruled (codes "ingress") (only_item (fields (empty name))))

abbrev pub in_egress : List ℕ → Option DocFault
in_egress name = first_fault (ruled (codes "egress") (only_item (fields (empty name))))

abbrev pub in_cidr_set : List ℕ → Option DocFault
in_cidr_set name = first_fault (with_cidr_set ((codes "cidr", text (codes "10.0.0.0/8")) ∷ empty name))

abbrev pub in_port_item : List ℕ → Option DocFault
in_port_item name = first_fault (ruled (codes "ingress") (only_item (fields ((codes "toPorts", only_item (fields (empty name))) ∷ []))))

-- each of these names is left out there
abbrev pub AreLeftOut : (List ℕ → Option DocFault) → List (List ℕ) → Type 0
AreLeftOut there names = map there names ≡ map (λ name. Some (Unsupported name)) names

-- each of these names is unknown there, behind this path
abbrev pub AreUnknown : List ℕ → (List ℕ → Option DocFault) → List (List ℕ) → Type 0
AreUnknown path there names = map there names ≡ map (λ name. Some (UnknownMember (path ++ name))) names

-- ---- what it is refused for by one text

abbrev port_with : List ℕ → List ℕ → Data
port_with port protocol =
    only_item (fields ((codes "ports", only_item (fields ((codes "port", text port) ∷ (codes "protocol", text protocol) ∷ []))) ∷ []))

abbrev pub as_port : List ℕ → Option DocFault
as_port port = first_fault (ruled (codes "ingress") (only_item (fields ((codes "toPorts", port_with port (codes "TCP")) ∷ []))))

abbrev pub as_protocol : List ℕ → Option DocFault
as_protocol protocol = first_fault (ruled (codes "ingress") (only_item (fields ((codes "toPorts", port_with (codes "80") protocol) ∷ []))))

abbrev pub as_cidr : List ℕ → Option DocFault
as_cidr cidr = first_fault (with_cidr_set ((codes "cidr", text cidr) ∷ []))
