-- One row of a set for each peer that filters list.
use Rattle.std.specs.Prelude.{ℕ, ◌≡◌, ◌==◌, ◌++◌, nat_eq, Bool, List, map, Some, IsTrue, option_map}
use Rattle.std.specs.Arc.{arc_value}
use Rattle.std.specs.HashSet.{HashSet, contains}
use Rattle.std.specs.List.{AllByRecursion, Contains, IsDistinct, flat_map, list_any}
use Rattle.pol_rule.specs.contracts.policy.PeerPartialEq.TheImpl as peer
use Rattle.pol_rule.specs.declared.policy.Peer.{Peer}
use Rattle.pol_model.specs.declared.row.IdentityRow.{IdentityRow}
use Rattle.pol_model.specs.Selects.{set_at}
use Rattle.pol_sets.specs.declared.sets.SetRow.{SetRow}
use Rattle.pol_sets.specs.Sets.{has_set}
use Rattle.pol_filters.specs.declared.filter.Filter.{Filter}
use Rattle.pol_filters.specs.declared.filter.Filters.{Filters}
use Rattle.pol_distill.specs.Sorted.{HaveSets}
use Rattle.pol_selcache.specs.Live.{AreExact, Live, number_of, selector_of}
use Rattle.pol_rule.specs.Listed.{peers_in}

abbrev pub list_peers : List Filter → List Peer
list_peers filters = flat_map (λ one. peers_in one.peers) filters

-- the peers that the filters list, each as often as it stands there
abbrev pub filter_peers : Filters → List Peer
filter_peers filters = list_peers filters.ingress ++ list_peers filters.egress

-- some row is the selector's
abbrev pub has_selector : ℕ → List SetRow → Bool
has_selector selector rows = list_any (λ row. row.selector == selector) rows

-- the numbers are those of the rows' selectors
abbrev pub AreSelectorsOf : {S : Type 0} → HashSet ℕ S → List SetRow → Type 0
AreSelectorsOf selectors rows = (number : ℕ) → contains nat_eq selectors number ≡ has_selector number rows

-- the row has the number and the set of its peer's live selector
pub record IsLiveRow (live : List Live) (row : SetRow) : Type 0 where
  pub selector : number_of row.peer live ≡ Some row.selector
  pub set : option_map (λ s. s.set) (selector_of row.selector live) ≡ Some (arc_value row.set)

-- Each peer has its row, each row is of one of them, and no two rows have one selector.
pub record AreRowsFor (selectors : List Live) (peers : List Peer) (rows : List SetRow) : Type 0 where
  pub live : AllByRecursion (IsLiveRow selectors) rows
  pub listed : AllByRecursion (λ row. Contains peers row.peer) rows
  pub every : AllByRecursion (λ p. IsTrue (has_set rows p)) peers
  pub once : IsDistinct nat_eq (map (λ row. row.selector) rows)

-- The rows are those of the filters' listed peers, each with the number of its peer's live selector. No two have one
-- selector, and so no two have one peer. Where the selectors' sets are exact over some rows of identities, so are these.
pub record AreSetsFor (live : List Live) (filters : Filters) (rows : List SetRow) : Type 0 where
  pub every : HaveSets rows filters
  pub listed : AllByRecursion (λ row. Contains (filter_peers filters) row.peer) rows
  pub selectors : AllByRecursion (λ row. number_of row.peer live ≡ Some row.selector) rows
  pub once : IsDistinct nat_eq (map (λ row. row.selector) rows)
  pub apart : IsDistinct peer.ghosts.eq (map (λ row. row.peer) rows)
  pub exact : (identities : List IdentityRow) → AreExact identities live → AllByRecursion (λ row. arc_value row.set ≡ set_at identities row.peer) rows
