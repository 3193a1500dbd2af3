-- What rows of peers and sets say that a peer selects.
use Rattle.std.specs.Prelude.{ℕ, Bool, List, [], find}
use Rattle.std.specs.Arc.{arc_value}
use Rattle.std.specs.List.{list_any}
use Rattle.std.specs.Option.{option_map_or}
use Rattle.pol_rule.specs.contracts.policy.PeerPartialEq.TheImpl as peers
use Rattle.pol_rule.specs.declared.policy.Peer.{Peer}
use Rattle.pol_sets.specs.declared.sets.SetRow.{SetRow}

-- whether the row is the peer's
abbrev pub is_row_of : Peer → SetRow → Bool
is_row_of p row = peers.ghosts.eq row.peer p

-- whether the peer has a row
abbrev pub has_set : List SetRow → Peer → Bool
has_set rows p = list_any (is_row_of p) rows

-- the set that its first row gives a peer
abbrev pub set_given : List SetRow → Peer → List ℕ
set_given rows p = option_map_or (λ row. arc_value row.set) (find (is_row_of p) rows) []
