-- How a policy map is kept: the keys of each direction and identity. No public clause cites this module.
use Rattle.std.specs.Prelude.{◌≡◌, ℕ, ◌+◌, List, [], ◌∷◌, ◌++◌, map, Bool, is_some, Option, Some, None, option_and_then, flat_map}
use Rattle.std.specs.FinMap as finite
use Rattle.std.specs.Map.{lookup}
use Rattle.pol_ports.specs.declared.Direction.{Direction}
use Rattle.pol_ports.specs.declared.Direction.TheVariants.{Ingress, Egress}
use Rattle.pol_ports.specs.declared.Proto.{Proto}
use Rattle.pol_ports.specs.declared.Proto.TheVariants.{Tcp, Udp, Sctp}
use Rattle.pol_mapkey.specs.declared.Kind.{Kind}
use Rattle.pol_mapkey.specs.declared.MapKey.{MapKey}
use Rattle.pol_mapkey.specs.MapKey.{every_key, port_key}
use Rattle.pol_mapkey.specs.Entries.{Entry}
use Rattle.pol_trie.specs.declared.root.Root.{Root}
use Rattle.pol_trie.specs.declared.root.Zeros.{Zeros}
use Rattle.pol_trie.specs.declared.key_set.KeySet.{KeySet}
use Rattle.pol_trie.specs.KeySet.{kind_of, key_count}
use Rattle.pol_trie.specs.PortMap.{PortMap}
use Rattle.pol_trie.specs.PolicyMap.{PolicyMap}

-- the direction and the identity of a key
abbrev pub root_of : MapKey → Root
root_of key = record { dir = key.dir; id = key.id }

-- the entry of the key for every protocol, if it is there
abbrev pub every_entry : Root → Option Kind → List Entry
every_entry root None = []
every_entry root (Some kind) = (every_key root.dir root.id, kind) ∷ []

-- the entries of the keys for one protocol
abbrev pub port_entries : Root → Proto → PortMap → List Entry
port_entries root proto ports = map (λ e. (port_key root.dir root.id proto e.0, e.1)) (finite.entries ports)

-- the entries of a direction and an identity
abbrev pub entries_of : Root × KeySet → List Entry
entries_of e =
    every_entry e.0 e.1.every ++ (port_entries e.0 Tcp e.1.tcp ++ (port_entries e.0 Udp e.1.udp ++ port_entries e.0 Sctp e.1.sctp))

-- the map of all of them
unfoldable pub policy_of : List (Root × KeySet) → PolicyMap
policy_of roots = finite.from_entries (flat_map entries_of roots)

-- how many keys the rows have together
abbrev pub row_keys : List (Root × KeySet) → ℕ
row_keys [] = 0
row_keys (e ∷ es) = key_count e.1 + row_keys es

-- the kind of a key, by its direction and identity
abbrev pub kind_at : (Root → Root → Bool) → List (Root × KeySet) → MapKey → Option Kind
kind_at eq roots key = option_and_then (λ s. kind_of s key.proto key.port) (lookup (eq (root_of key)) roots)

-- in which directions identity 0 is said to have keys
abbrev pub tells_zero : Zeros → Direction → Bool
tells_zero zeros Ingress = zeros.ingress
tells_zero zeros Egress = zeros.egress

-- that is said where it has keys among the rows
abbrev pub TellsZero : (Root → Root → Bool) → Zeros → List (Root × KeySet) → Type 0
TellsZero eq zeros rows = (dir : Direction) → tells_zero zeros dir ≡ is_some (lookup (eq (record { dir = dir; id = 0 })) rows)
