-- What is wrong with the document of a Kubernetes NetworkPolicy: its first fault (Kubernetes, `NetworkPolicy`; 'profile':
-- the order of the faults).
use Rattle.std.specs.Prelude.{ℕ, ◌&&◌, not, Bool, if◌then◌else◌, List, [], codes, Option, None, Some, is_some, option_map}
use Rattle.std.specs.Option.{option_or}
use Rattle.serde_json.specs.Data.{Data}
use Rattle.pol_json.specs.declared.fault.DocFault.{DocFault}
use Rattle.pol_json.specs.declared.fault.DocFault.TheVariants.{NotPolicy, NoName, NoSpec}
use Rattle.pol_json.specs.declared.table.ObjectKind.TheVariants.{NetworkPolicy}
use Rattle.pol_json.specs.Build.{default_namespace, metadata_text}
use Rattle.pol_json.specs.Document.{has_name, places_in}
use Rattle.pol_json.specs.Members.{is_text, present, text_at}
use Rattle.pol_json.specs.Path.{fault_of}
use Rattle.pol_json.specs.Places.{first_found}

-- an object of the version and of the kind
abbrev pub is_network_policy : Data → Bool
is_network_policy d =
    is_text (codes "networking.k8s.io/v1") (text_at (codes "apiVersion") d) && is_text (codes "NetworkPolicy") (text_at (codes "kind") d)

-- the fault of what is no NetworkPolicy, has no name, or has no spec
abbrev pub network_head_fault : Data → Option DocFault
network_head_fault d =
    if not (is_network_policy d) then Some NotPolicy
    else if not (has_name d) then Some NoName
    else if not (is_some (present (codes "spec") d)) then Some NoSpec
    else None

-- the first fault of the document, none where it is read
abbrev pub network_fault : Data → Option DocFault
network_fault d = option_or (network_head_fault d) (option_map fault_of (first_found (places_in NetworkPolicy d)))

-- ---- names

abbrev pub network_name : Data → List ℕ
network_name d = metadata_text (codes "name") [] d

-- the namespace of an object that names none is the default one (Kubernetes, "Namespaces")
abbrev pub network_namespace : Data → List ℕ
network_namespace d = metadata_text (codes "namespace") default_namespace d
