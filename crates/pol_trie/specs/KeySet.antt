-- The keys of one direction and identity. No public clause cites this module.
use Rattle.std.specs.Prelude.{◌≡◌, ℕ, ◌+◌, ◌&&◌, is_some, if◌then◌else◌, Option, None}
use Rattle.std.specs.Option.{option_or}
use Rattle.std.specs.FinMap as map
use Rattle.pol_ports.specs.declared.Proto.{Proto}
use Rattle.pol_ports.specs.declared.PortPrefix.{PortPrefix}
use Rattle.pol_ports.specs.PortPrefix.{empty_prefix, same_prefix}
use Rattle.pol_mapkey.specs.declared.KeyProto.{KeyProto}
use Rattle.pol_mapkey.specs.declared.KeyProto.TheVariants.{Every, Tcp, Udp, Sctp}
use Rattle.pol_mapkey.specs.declared.Kind.{Kind}
use Rattle.pol_mapkey.specs.KeyProto.{key_proto, same_key_proto}
use Rattle.pol_trie.specs.declared.key_set.KeySet.{KeySet}
use Rattle.pol_trie.specs.PortMap.{Decides}

-- the kind of a protocol and a port prefix; the key for every protocol has the empty prefix
abbrev pub kind_of : KeySet → KeyProto → PortPrefix → Option Kind
kind_of s Every port = if same_prefix empty_prefix port then s.every else None
kind_of s Tcp port = map.get s.tcp port
kind_of s Udp port = map.get s.udp port
kind_of s Sctp port = map.get s.sctp port

-- one protocol and port prefix got this kind, and each other kept its own
abbrev pub HasKind : KeySet → KeySet → KeyProto → PortPrefix → Option Kind → Type 0
HasKind old new proto port value =
    (p : KeyProto) (q : PortPrefix) → kind_of new p q ≡ (if same_key_proto proto p && same_prefix port q then value else kind_of old p q)

-- the kind of the longest key that covers a packet: one of the packet's protocol, or else the one for
-- every protocol
pub record Covering (s : KeySet) (proto : Proto) (port : ℕ) (found : Option Kind) : Type 0 where
  pub own : Option Kind
  pub decides : Decides (kind_of s (key_proto proto)) port own
  pub is : found ≡ option_or own s.every

-- how many keys there are
abbrev pub key_count : KeySet → ℕ
key_count s = (if is_some s.every then 1 else 0) + map.len s.tcp + map.len s.udp + map.len s.sctp
