-- What a policy document reads as: a policy as it was written, or its first fault (Cilium, Network
-- Policy, "CiliumNetworkPolicy"; 'profile': the order of the faults).
use Rattle.std.specs.Prelude.{ℕ, ◌==◌, ◌&&◌, ◌||◌, not, nat_lt, Bool, false, if◌then◌else◌, List, length, codes, Option, None, Some, is_some, option_map, option_and_then, Result, Ok, Err}
use Rattle.std.specs.Option.{option_or}
use Rattle.serde_json.specs.Data.{Data}
use Rattle.pol_json.specs.declared.fault.DocFault.{DocFault}
use Rattle.pol_json.specs.declared.fault.DocFault.TheVariants.{NotPolicy, NoName, NoSpec}
use Rattle.pol_json.specs.declared.table.Content.TheVariants.{Object}
use Rattle.pol_json.specs.declared.table.ObjectKind.{ObjectKind}
use Rattle.pol_json.specs.declared.table.ObjectKind.TheVariants.{Policy}
use Rattle.pol_json.specs.Build.{is_cluster_wide, policy_of}
use Rattle.pol_json.specs.Members.{is_text, present, text_at, list_at}
use Rattle.pol_json.specs.Path.{fault_of}
use Rattle.pol_json.specs.Places.{Place, places, first_found}
use Rattle.pol_json.specs.Table.{one}
use Rattle.pol_rule.specs.declared.raw.RawPolicy.{RawPolicy}

-- one of the two kinds
abbrev pub has_kind : Data → Bool
has_kind d = is_text (codes "CiliumNetworkPolicy") (text_at (codes "kind") d) || is_cluster_wide d

-- an object of the version and of one of the two kinds
abbrev pub is_policy : Data → Bool
is_policy d = is_text (codes "cilium.io/v2") (text_at (codes "apiVersion") d) && has_kind d

abbrev pub is_long : {A : Type 0} → Option (List A) → Bool
is_long None = false
is_long (Some xs) = nat_lt 0 (length xs)

abbrev pub has_name : Data → Bool
has_name d = is_long (option_and_then (text_at (codes "name")) (present (codes "metadata") d))

abbrev pub is_empty_list : {A : Type 0} → Option (List A) → Bool
is_empty_list None = false
is_empty_list (Some xs) = length xs == 0

-- whether a member is there and is no empty list
abbrev pub is_there_and_long : List ℕ → Data → Bool
is_there_and_long name d = is_some (present name d) && not (is_empty_list (list_at name d))

abbrev pub has_spec : Data → Bool
has_spec d = is_some (present (codes "spec") d) || is_there_and_long (codes "specs") d

-- the fault of what is no policy, has no name, or has no rule
abbrev pub head_fault : Data → Option DocFault
head_fault d =
    if not (is_policy d) then Some NotPolicy
    else if not (has_name d) then Some NoName
    else if not (has_spec d) then Some NoSpec
    else None

-- the places of a document of this kind
abbrev pub places_in : ObjectKind → Data → List Place
places_in kind d = places (one (Object kind)) d

-- the places of a document
abbrev pub places_of : Data → List Place
places_of d = places_in Policy d

-- the first fault of a document
abbrev pub first_fault : Data → Option DocFault
first_fault d = option_or (head_fault d) (option_map fault_of (first_found (places_of d)))

abbrev pub unless_fault : {A E : Type 0} → Option E → A → Result A E
unless_fault None x = Ok x
unless_fault (Some fault) x = Err fault

abbrev pub read_document : Data → Result RawPolicy DocFault
read_document d = unless_fault (first_fault d) (policy_of d)
