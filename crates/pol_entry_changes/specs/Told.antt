-- What is known of filters that stay, and of their peers' moves.
use Rattle.std.specs.Prelude.{◌≡◌, ⊤, List, Some, find}
use Rattle.std.specs.List.{AllByRecursion, Contains}
use Rattle.pol_rule.specs.declared.policy.Peer.{Peer}
use Rattle.pol_rule.specs.declared.policy.Peers.{Peers}
use Rattle.pol_rule.specs.declared.policy.Peers.TheVariants.{Every, Listed}
use Rattle.pol_sets.specs.declared.sets.Move.{Move}
use Rattle.pol_sets.specs.declared.sets.SetRow.{SetRow}
use Rattle.pol_sets.specs.Sets.{is_row_of, set_given}
use Rattle.pol_set_changes.specs.Sets.{IsMove}
use Rattle.pol_filters.specs.declared.filter.Filter.{Filter}

-- The peer's first row has a move of its selector, and each such move is exact.
pub record IsTold (was is : List SetRow) (moves : List Move) (p : Peer) : Type 0 where
  pub row : SetRow
  pub first : find (is_row_of p) is ≡ Some row
  pub move : Move
  pub there : Contains moves move
  pub own : move.selector ≡ row.selector
  pub exact : (m : Move) → Contains moves m → m.selector ≡ row.selector → IsMove (set_given was p) (set_given is p) m

-- each listed peer has its move
abbrev pub PeersTold : List SetRow → List SetRow → List Move → Peers → Type 0
PeersTold was is moves Every = ⊤
PeersTold was is moves (Listed peers) = AllByRecursion (IsTold was is moves) peers

-- the filters have one place and one stamp
abbrev pub StandsAt : Filter → Filter → Type 0
StandsAt one other = (one.place ≡ other.place) × (one.stamp ≡ other.stamp)

-- a filter of the one list that has the place and the stamp of one of the other is that one
abbrev pub NamesOne : List Filter → List Filter → Type 0
NamesOne was is = (one other : Filter) → Contains was one → Contains is other → StandsAt one other → one ≡ other

-- the same, and its peers have their moves
abbrev pub Stays : List SetRow → List SetRow → List Move → List Filter → List Filter → Type 0
Stays was_rows is_rows moves was is =
    (one other : Filter) → Contains was one → Contains is other → StandsAt one other → (one ≡ other) × PeersTold was_rows is_rows moves other.peers
