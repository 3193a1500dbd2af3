-- When changes may be applied to a work.
use Rattle.std.specs.Prelude.{◌≡◌, ◌≢◌, List, ◌++◌, Some}
use Rattle.std.specs.List.{AllPairs, Contains, find}
use Rattle.pol_rule.specs.declared.policy.Peer.{Peer}
use Rattle.pol_sets.specs.declared.sets.Move.{Move}
use Rattle.pol_sets.specs.declared.sets.SetRow.{SetRow}
use Rattle.pol_sets.specs.Sets.{is_row_of, set_given}
use Rattle.pol_set_changes.specs.Sets.{IsMove}
use Rattle.pol_filters.specs.declared.filter.Filter.{Filter}
use Rattle.pol_filters.specs.declared.filter.Filters.{Filters}
use Rattle.pol_kept_map.specs.Work.{AllOfPeers, WorkOf}

-- the filters of both directions
abbrev pub all_filters : Filters → List Filter
all_filters filters = filters.ingress ++ filters.egress

-- no two of the filters have one place
abbrev pub PlacesDiffer : Filters → Type 0
PlacesDiffer filters = AllPairs (λ one other. one.place ≢ other.place) (all_filters filters)

-- a filter among these has the place and the stamp: the filter stays
abbrev pub StandsIn : Filters → Filter → Type 0
StandsIn filters one = (own : Filter) × Contains (all_filters filters) own × (own.place ≡ one.place) × (own.stamp ≡ one.stamp)

-- a place and a stamp name one filter, before and after
abbrev pub NamesFilters : Filters → Filters → Type 0
NamesFilters before after =
    (one other : Filter) → Contains (all_filters before) one → Contains (all_filters after) other → one.place ≡ other.place → one.stamp ≡ other.stamp
    → one ≡ other

-- There is a move of the number in the peer's row, and each such move is exact: it gained what the peer's set has now and
-- hadn't before, and lost what it had and hasn't.
pub record HasMove (before after : List SetRow) (moves : List Move) (p : Peer) : Type 0 where
  pub row : SetRow
  pub first : find (is_row_of p) after ≡ Some row
  pub move : Move
  pub there : Contains moves move
  pub own : move.selector ≡ row.selector
  pub exact : (m : Move) → Contains moves m → m.selector ≡ row.selector → IsMove (set_given before p) (set_given after p) m

-- each listed peer of a filter that stays has its move
abbrev pub MovesTell : WorkOf → Filters → List SetRow → List Move → Type 0
MovesTell work filters rows moves =
    (one : Filter) → Contains (all_filters filters) one → StandsIn work.filters one → AllOfPeers (HasMove work.rows rows moves) one.peers
