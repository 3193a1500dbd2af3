-- Objects of JSON whose members may be absent, and lists.
use Rattle.std.specs.Prelude.{ℕ, List, [], ◌∷◌, map, Option, None, Some}
use Rattle.serde_json.specs.Data.{Data, array, object, Members, no_members, member}
use Rattle.serde_json.specs.View.{items_of}

-- members by their names, in order; none where a member is left out
abbrev pub Fields : Type 0
Fields = List (List ℕ × Option Data)

abbrev pub with_field : List ℕ → Option Data → Members → Members
with_field name None others = others
with_field name (Some d) others = member name d others

abbrev pub members_of : Fields → Members
members_of [] = no_members
members_of (field ∷ others) = with_field field.0 field.1 (members_of others)

abbrev pub object_of : Fields → Data
object_of fields = object (members_of fields)

-- the list of what each item is written as
abbrev pub array_of : {A : Type 0} → (A → Data) → List A → Data
array_of write xs = array (items_of (map write xs))

-- an empty list is left out
abbrev pub unless_empty : {A : Type 0} → (List A → Data) → List A → Option Data
unless_empty write [] = None
unless_empty write (x ∷ xs) = Some (write (x ∷ xs))
