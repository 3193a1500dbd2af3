-- The members of a JSON object. A member whose value is null counts as absent (Kubernetes, "API Conventions").
use Rattle.std.specs.Prelude.{ℕ, Bool, false, if◌then◌else◌, List, [], ◌∷◌, Option, None, Some, is_some, option_and_then, bytes_eq}
use Rattle.serde_json.specs.Data.{Data, Items, no_items, item}
use Rattle.serde_json.specs.Find.{get, as_null, as_array, as_str}

abbrev pub is_null : Data → Bool
is_null d = is_some (as_null d)

abbrev pub unless_null : Data → Option Data
unless_null d = if is_null d then None else Some d

-- the value of a member that is there
abbrev pub present : List ℕ → Data → Option Data
present name d = option_and_then unless_null (get name d)

-- the text of a member
abbrev pub text_at : List ℕ → Data → Option (List ℕ)
text_at name d = option_and_then as_str (present name d)

abbrev pub items_list : Items → List Data
items_list no_items = []
items_list (item d others) = d ∷ items_list others

-- the items of a member that is a list
abbrev pub list_at : List ℕ → Data → Option (List Data)
list_at name d = option_and_then (λ ds. Some (items_list ds)) (option_and_then as_array (present name d))

abbrev pub is_text : List ℕ → Option (List ℕ) → Bool
is_text wanted None = false
is_text wanted (Some text) = bytes_eq wanted text
