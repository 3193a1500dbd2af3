-- When a map that was made before a change serves after it.
use Rattle.std.specs.Prelude.{◌≡◌, Bool, List, IsTrue, map}
use Rattle.std.specs.List.{AllByRecursion}
use Rattle.pol_model.specs.declared.row.IdentityRow.{IdentityRow}
use Rattle.pol_rule.specs.declared.policy.Entry.{Entry}
use Rattle.pol_model_laws.specs.MapFacts.{AgreeOnPeers}
use Rattle.pol_sets.specs.declared.sets.SetRow.{SetRow}
use Rattle.pol_sets.specs.Sets.{has_set, set_given}
use Rattle.pol_filters.specs.declared.filter.Filter.{Filter}
use Rattle.pol_filters.specs.declared.filter.Filters.{Filters}
use Rattle.pol_filters.specs.FilterParts.{entry_of}
use Rattle.pol_distill.specs.Distilled.{distilled}
use Rattle.pol_connection_maps.specs.Maps.{NumberEntries}
use Rattle.pol_connection_maps.specs.PeerRows.{filters_peers}
use Rattle.pol_connection_maps.specs.Sets.{AreExact}

-- what a filter gives to a map
abbrev pub part_of : Filter → Bool × Entry
part_of one = (one.deny, entry_of one)

abbrev pub GiveTheSameList : List Filter → List Filter → Type 0
GiveTheSameList one other = map part_of one ≡ map part_of other

-- both give the same to a map
pub record GiveTheSame (one other : Filters) : Type 0 where
  pub never : one.never ≡ other.never
  pub ingress_enforced : one.ingress_enforced ≡ other.ingress_enforced
  pub egress_enforced : one.egress_enforced ≡ other.egress_enforced
  pub localhost : one.localhost ≡ other.localhost
  pub ingress : GiveTheSameList one.ingress other.ingress
  pub egress : GiveTheSameList one.egress other.egress

-- the peers that the filters list have the same sets by both
abbrev pub AgreeOnFilters : List SetRow → List SetRow → List Filter → Type 0
AgreeOnFilters before after filters = AllByRecursion (λ one. AgreeOnPeers (set_given before) (set_given after) one.peers) filters

-- the map is that of its filters and these sets
abbrev pub IsMadeOf : List SetRow → NumberEntries → Type 0
IsMadeOf sets own = own.entries ≡ distilled own.filters sets

-- each peer that the filters list has its row, and the rows are those of some identities
pub record ServeAll (sets : List SetRow) (filters : Filters) : Type 0 where
  pub every : AllByRecursion (λ p. IsTrue (has_set sets p)) (filters_peers filters)
  pub identities : List IdentityRow
  pub exact : AreExact identities sets
