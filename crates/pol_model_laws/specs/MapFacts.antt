-- What laws say of the entries of maps.
use Rattle.std.specs.Prelude.{◌≡◌, ◌↔◌, ℕ, false, List}
use Rattle.std.specs.List.{AllByRecursion, Contains}
use Rattle.pol_ports.specs.declared.Direction.{Direction}
use Rattle.pol_mapkey.specs.declared.MapKey.{MapKey}
use Rattle.pol_mapkey.specs.declared.Kind.{Kind}
use Rattle.pol_mapkey.specs.declared.Kind.TheVariants.{Deny}
use Rattle.pol_mapkey.specs.MapKey.{strictly_covers}
use Rattle.pol_mapkey.specs.Entries.{Entry}
use Rattle.pol_rule.specs.declared.policy.Entry.{Entry as RuleEntry}
use Rattle.pol_rule.specs.declared.policy.Peer.{Peer}
use Rattle.pol_rule.specs.declared.policy.Peers.{Peers}
use Rattle.pol_rule.specs.declared.policy.Peers.TheVariants.{Every, Listed}
use Rattle.pol_model.specs.PolicyMap.{MapParts}
use Rattle.pol_model.specs.Selects.{is_all}

-- some entry has the key
abbrev pub HasKey : List Entry → MapKey → Type 0
HasKey entries key = (kind : Kind) × Contains entries (key, kind)

-- no deny among the entries covers the key strictly
abbrev pub IsUnderNoDeny : List Entry → MapKey → Type 0
IsUnderNoDeny entries key = (deny : MapKey) → Contains entries (deny, Deny) → strictly_covers deny key ≡ false

-- both lists have the same entries, in any order and number
abbrev pub HaveSameEntries : List Entry → List Entry → Type 0
HaveSameEntries xs ys = (entry : Entry) → Contains xs entry ↔ Contains ys entry

-- two ways to say what peers select agree on the listed peers; on the entity `all` they may differ
abbrev pub AgreeOnPeers : (Peer → List ℕ) → (Peer → List ℕ) → Peers → Type 0
AgreeOnPeers set other Every = Unit {0}
AgreeOnPeers set other (Listed peers) = AllByRecursion (λ p. is_all p ≡ false → set p ≡ other p) peers

abbrev pub AgreeOnEntries : (Peer → List ℕ) → (Peer → List ℕ) → List RuleEntry → Type 0
AgreeOnEntries set other entries = AllByRecursion (λ entry. AgreeOnPeers set other entry.peers) entries

-- they agree on all peers that the parts of a map list
pub record AgreeOnParts (set other : Peer → List ℕ) (parts : MapParts) : Type 0 where
  pub allows : (dir : Direction) → AgreeOnEntries set other (parts.allows dir)
  pub denies : (dir : Direction) → AgreeOnEntries set other (parts.denies dir)
