-- The keys of selectors, and which labels one speaks of (Cilium, Network Policy, "Endpoints based").
use Rattle.std.specs.Prelude.{ℕ, Bool, ◌&&◌, ◌||◌, ◌==◌, if◌then◌else◌, nat_eq, List, [], length, codes}
use Rattle.std.specs.List.{list_any, before_first, starts_with}
use Rattle.std.specs.Str.{bytes_eq}
use Rattle.pol_labels.specs.LabelText.{is_colon, key_part}
use Rattle.pol_labels.specs.declared.requirement.Operator.{Operator}
use Rattle.pol_labels.specs.declared.requirement.Requirement.{Requirement}

-- the source that stands for every source
abbrev pub any_source : List ℕ
any_source = codes "any"

-- the source of a key: what stands before its first `:`, and every source where there is none
abbrev pub source_of : List ℕ → List ℕ
source_of key = if list_any is_colon key then before_first is_colon key else any_source

-- a `:` with no source before it
abbrev pub lacks_source : List ℕ → Bool
lacks_source key = length (source_of key) == 0

-- what is asked of the labels of a source and a key
abbrev pub requirement_of : List ℕ → List ℕ → Operator → List (List ℕ) → Requirement
requirement_of source key op values = record {
  any_source = bytes_eq source any_source;
  source = if bytes_eq source any_source then [] else source;
  key = key;
  op = op;
  values = values;
}

-- What is asked of the labels of a selector's key, which stands after the first `:`.
abbrev pub requirement_on : List ℕ → Operator → List (List ℕ) → Requirement
requirement_on key op values = requirement_of (source_of key) (key_part key) op values

-- ---- keys with a meaning of their own

-- labels that Kubernetes gave, or those of every source
abbrev pub is_k8s_source : List ℕ → Bool
is_k8s_source source = bytes_eq source any_source || bytes_eq source (codes "k8s")

-- labels that Cilium gave to identities of its own
abbrev pub is_reserved_source : List ℕ → Bool
is_reserved_source source = bytes_eq source (codes "reserved")

-- the label that every pod has its namespace in
abbrev pub namespace_key : List ℕ
namespace_key = codes "io.kubernetes.pod.namespace"

-- the keys of a namespace's own labels begin so
abbrev pub namespace_labels : List ℕ
namespace_labels = codes "io.cilium.k8s.namespace.labels."

abbrev pub is_namespace : List ℕ → List ℕ → Bool
is_namespace source key = is_k8s_source source && bytes_eq key namespace_key

abbrev pub is_on_namespace : List ℕ → Bool
is_on_namespace key = is_namespace (source_of key) (key_part key)

abbrev pub is_on_namespace_labels : List ℕ → Bool
is_on_namespace_labels key = is_k8s_source (source_of key) && starts_with nat_eq (key_part key) namespace_labels

abbrev pub is_on_init : List ℕ → Bool
is_on_init key = is_reserved_source (source_of key) && bytes_eq (key_part key) (codes "init")

-- a key by which a peer selector says itself in which namespaces its endpoints are (which keys count: 'profile')
abbrev pub says_namespace : List ℕ → Bool
says_namespace key = is_on_namespace key || is_on_namespace_labels key || is_reserved_source (source_of key)
