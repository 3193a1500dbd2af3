-- Documents of NetworkPolicies, for examples that compute. The members of an object stand in byte order.
use Rattle.std.specs.Prelude.{ℕ, List, [], ◌∷◌, codes}
use Rattle.serde_json.specs.Data.{Data, string, array, object, Items, no_items, item, Members, no_members, member}

abbrev members_of : List (List ℕ × Data) → Members
members_of [] = no_members
members_of (one ∷ others) = member one.0 one.1 (members_of others)

abbrev items_of : List Data → Items
items_of [] = no_items
items_of (one ∷ others) = item one (items_of others)

-- an object, a list, and a list of one
abbrev pub fields : List (List ℕ × Data) → Data
fields list = object (members_of list)

abbrev pub items : List Data → Data
items list = array (items_of list)

abbrev pub only_item : Data → Data
only_item one = items (one ∷ [])

-- the metadata of an object with the name `np`
abbrev pub named_np : Data
named_np = fields ((codes "name", string (codes "np")) ∷ [])

-- a document of this version, kind and metadata, with these members of its spec
abbrev pub headed : List ℕ → List ℕ → Data → List (List ℕ × Data) → Data
headed version kind metadata spec =
    fields ((codes "apiVersion", string version) ∷ (codes "kind", string kind) ∷ (codes "metadata", metadata) ∷ (codes "spec", fields spec) ∷ [])

-- a NetworkPolicy with the name `np`
abbrev pub network : List (List ℕ × Data) → Data
network spec = headed (codes "networking.k8s.io/v1") (codes "NetworkPolicy") named_np spec

-- a selector of the label `app`
abbrev pub of_app : List ℕ → Data
of_app value = fields ((codes "matchLabels", fields ((codes "app", string value) ∷ [])) ∷ [])

-- a NetworkPolicy for every pod, with one entry of the section
abbrev pub with_entry : List ℕ → List (List ℕ × Data) → Data
with_entry section entry = network ((section, only_item (fields entry)) ∷ (codes "podSelector", fields []) ∷ [])

-- the same, with one peer of ingress, and with one port
abbrev pub with_peer : List (List ℕ × Data) → Data
with_peer peer = with_entry (codes "ingress") ((codes "from", only_item (fields peer)) ∷ [])

abbrev pub with_port : List (List ℕ × Data) → Data
with_port port = with_entry (codes "ingress") ((codes "ports", only_item (fields port)) ∷ [])
