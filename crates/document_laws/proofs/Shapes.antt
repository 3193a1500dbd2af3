-- What should stand at each place of a policy's document, named by the way to it.
use Rattle.std.proofs.Common.{◌≡◌, ℕ, List, [], ◌∷◌, ◌++◌, codes, map, refl}
use Rattle.serde_json.specs.Data.{Data, null, string, object, Members, no_members, member}
use Rattle.pol_json.specs.Build.{by_direction}
use Rattle.pol_json.specs.Places.{Place, below, named, places, under, unless_absent}
use Rattle.pol_json.specs.Document.{places_of}
use Rattle.pol_json.specs.Table.{Shape, unknown, list_of, one}
use Rattle.pol_ports.specs.declared.Direction.{Direction}
use Rattle.pol_ports.specs.declared.Direction.TheVariants.{Ingress, Egress}

abbrev pub first_shape : List Place → Shape
first_shape [] = unknown
first_shape (place ∷ others) = place.shape

abbrev second_shape : List Place → Shape
second_shape [] = unknown
second_shape (place ∷ others) = first_shape others

-- at the member of an object, and at each item of a list
abbrev pub member_shape : Shape → List ℕ → Shape
member_shape shape name = second_shape (places shape (object (member name (string []) no_members)))

abbrev pub item_shape : Shape → Shape
item_shape (list_of content) = one content
item_shape _ = unknown

-- the places below an object are those of its members, one after another
pub record IsObject (shape : Shape) : Type 0 where
  pub nothing : below shape (object no_members) ≡ []
  pub more : (name : List ℕ) (d : Data) (others : Members) → below shape (object (member name d others))
      ≡ unless_absent d (map (under (named name)) (places (member_shape shape name) d)) ++ below shape (object others)

-- ---- the shapes of a policy

abbrev pub policy_shape : Shape
policy_shape = first_shape (places_of null)

abbrev pub metadata_shape : Shape
metadata_shape = member_shape policy_shape (codes "metadata")

abbrev pub name_shape : Shape
name_shape = member_shape metadata_shape (codes "name")

abbrev pub rule_shape : Shape
rule_shape = member_shape policy_shape (codes "spec")

abbrev pub default_deny_shape : Shape
default_deny_shape = member_shape rule_shape (codes "enableDefaultDeny")

abbrev pub boolean_shape : Shape
boolean_shape = member_shape default_deny_shape (codes "ingress")

abbrev pub selector_shape : Shape
selector_shape = member_shape rule_shape (codes "endpointSelector")

abbrev pub labels_shape : Shape
labels_shape = member_shape selector_shape (codes "matchLabels")

abbrev pub expression_shape : Shape
expression_shape = item_shape (member_shape selector_shape (codes "matchExpressions"))

-- any text
abbrev pub text_shape : Shape
text_shape = member_shape expression_shape (codes "key")

abbrev pub entry_shape : Direction → Shape
entry_shape dir = item_shape (member_shape rule_shape (by_direction dir (codes "ingress") (codes "egress")))

abbrev pub set_shape : Shape
set_shape = item_shape (member_shape (entry_shape Ingress) (codes "fromCIDRSet"))

abbrev pub port_item_shape : Shape
port_item_shape = item_shape (member_shape (entry_shape Ingress) (codes "toPorts"))

abbrev pub port_shape : Shape
port_shape = item_shape (member_shape port_item_shape (codes "ports"))

abbrev pub port_text_shape : Shape
port_text_shape = member_shape port_shape (codes "port")

abbrev pub protocol_shape : Shape
protocol_shape = member_shape port_shape (codes "protocol")

abbrev pub number_shape : Shape
number_shape = member_shape port_shape (codes "endPort")

-- ---- those of objects

pub policy_is : IsObject policy_shape
policy_is = record { nothing = refl; more = λ name d others. refl }

pub metadata_is : IsObject metadata_shape
metadata_is = record { nothing = refl; more = λ name d others. refl }

pub rule_is : IsObject rule_shape
rule_is = record { nothing = refl; more = λ name d others. refl }

pub default_deny_is : IsObject default_deny_shape
default_deny_is = record { nothing = refl; more = λ name d others. refl }

pub selector_is : IsObject selector_shape
selector_is = record { nothing = refl; more = λ name d others. refl }

pub labels_are : IsObject labels_shape
labels_are = record { nothing = refl; more = λ name d others. refl }

pub expression_is : IsObject expression_shape
expression_is = record { nothing = refl; more = λ name d others. refl }

pub entry_is : (dir : Direction) → IsObject (entry_shape dir)
entry_is Ingress = record { nothing = refl; more = λ name d others. refl }
entry_is Egress = record { nothing = refl; more = λ name d others. refl }

pub set_is : IsObject set_shape
set_is = record { nothing = refl; more = λ name d others. refl }

pub port_item_is : IsObject port_item_shape
port_item_is = record { nothing = refl; more = λ name d others. refl }

pub port_is : IsObject port_shape
port_is = record { nothing = refl; more = λ name d others. refl }
