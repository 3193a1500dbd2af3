-- What a work is seen as, and the map that it stands for.
use Rattle.std.specs.Prelude.{◌≡◌, ⊤, List}
use Rattle.std.specs.List.{AllByRecursion}
use Rattle.pol_mapkey.specs.Entries.{Entry}
use Rattle.pol_rule.specs.declared.policy.Peer.{Peer}
use Rattle.pol_rule.specs.declared.policy.Peers.{Peers}
use Rattle.pol_rule.specs.declared.policy.Peers.TheVariants.{Every, Listed}
use Rattle.pol_sets.specs.declared.sets.SetRow.{SetRow}
use Rattle.pol_sets.specs.Sets.{set_given}
use Rattle.pol_filters.specs.declared.filter.Filter.{Filter}
use Rattle.pol_filters.specs.declared.filter.Filters.{Filters}
use Rattle.pol_distill.specs.Distilled.{distilled}

-- the filters of an endpoint, and rows that say what their peers select
pub record WorkOf : Type 0 where
  pub filters : Filters
  pub rows : List SetRow

-- its policy map: the canonical map of the filters and sets, in key order
abbrev pub map_of : WorkOf → List Entry
map_of work = distilled work.filters work.rows

-- ---- what holds of each peer that filters list
abbrev pub AllOfPeers : (Peer → Type 0) → Peers → Type 0
AllOfPeers P Every = ⊤
AllOfPeers P (Listed peers) = AllByRecursion P peers

abbrev pub AllOfFilters : (Peer → Type 0) → List Filter → Type 0
AllOfFilters P filters = AllByRecursion (λ one. AllOfPeers P one.peers) filters

pub record AllListed (P : Peer → Type 0) (filters : Filters) : Type 0 where
  pub ingress : AllOfFilters P filters.ingress
  pub egress : AllOfFilters P filters.egress

-- The work is of these filters, and each peer that they list selects what these rows say.
pub record IsWorkOf (filters : Filters) (rows : List SetRow) (work : WorkOf) : Type 0 where
  pub same : work.filters ≡ filters
  pub agrees : AllListed (λ p. set_given work.rows p ≡ set_given rows p) filters

-- all but the filters is the same
pub record HasSameModes (one other : Filters) : Type 0 where
  pub never : one.never ≡ other.never
  pub ingress : one.ingress_enforced ≡ other.ingress_enforced
  pub egress : one.egress_enforced ≡ other.egress_enforced
  pub localhost : one.localhost ≡ other.localhost
