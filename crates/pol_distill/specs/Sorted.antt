-- What lists of entries are tables, and which sets filters need.
use Rattle.std.specs.Prelude.{◌<◌, ◌^◌, List, IsTrue, Option, MatchOption}
use Rattle.std.specs.List.{AllByRecursion, Contains}
use Rattle.std.specs.List.Sorted.{IsStrictlySortedBy}
use Rattle.std.specs.declared.cmp.Ordering.{Ordering}
use Rattle.pol_mapkey.specs.Entries.{Entry}
use Rattle.pol_mapkey.specs.MapKey.{key_cmp}
use Rattle.pol_mapkey.specs.declared.Kind.{Kind}
use Rattle.pol_mapkey.specs.declared.MapKey.{MapKey}
use Rattle.pol_rule.specs.declared.policy.Peers.{Peers}
use Rattle.pol_rule.specs.declared.policy.Peers.TheVariants.{Every, Listed}
use Rattle.pol_sets.specs.declared.sets.SetRow.{SetRow}
use Rattle.pol_sets.specs.Sets.{has_set}
use Rattle.pol_filters.specs.declared.filter.Filter.{Filter}
use Rattle.pol_filters.specs.declared.filter.Filters.{Filters}

-- entries by their keys
abbrev pub entry_order : Entry → Entry → Ordering
entry_order a b = key_cmp a.0 b.0

-- each entry stands before those after it, so each key stands once
abbrev pub IsTable : List Entry → Type 0
IsTable entries = IsStrictlySortedBy entry_order entries

-- what a look for a key gives: the kind of its entry, or none where it has none
abbrev pub IsKindOf : List Entry → MapKey → Option Kind → Type 0
IsKindOf entries key found = MatchOption found ((kind : Kind) → Contains entries (key, kind) → ⊥) (λ kind. Contains entries (key, kind))

-- the entry's ports are ports
abbrev pub IsSmall : Entry → Type 0
IsSmall entry = entry.0.port.bits < 2 ^ 16

-- each listed peer has its row
abbrev pub PeersHaveSets : List SetRow → Peers → Type 0
PeersHaveSets rows Every = Unit {0}
PeersHaveSets rows (Listed peers) = AllByRecursion (λ p. IsTrue (has_set rows p)) peers

abbrev pub ListHasSets : List SetRow → List Filter → Type 0
ListHasSets rows filters = AllByRecursion (λ one. PeersHaveSets rows one.peers) filters

-- each peer that the filters list has its row
pub record HaveSets (rows : List SetRow) (filters : Filters) : Type 0 where
  pub ingress : ListHasSets rows filters.ingress
  pub egress : ListHasSets rows filters.egress
