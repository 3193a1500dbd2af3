-- When a table finds the first row of each peer, and the peers that filters list.
use Rattle.std.specs.Prelude.{◌≡◌, List, ◌++◌, Option, find, option_map}
use Rattle.std.proofs.Common.{Bor}
use Rattle.std.specs.HashMap.{HashMap, get_by}
use Rattle.std.specs.List.{flat_map}
use Rattle.pol_rule.specs.contracts.policy.PeerPartialEq.TheImpl as peers
use Rattle.pol_rule.specs.declared.policy.Peer.{Peer}
use Rattle.pol_rule.specs.Listed.{peers_in}
use Rattle.pol_sets.specs.declared.sets.SetRow.{SetRow}
use Rattle.pol_sets.specs.Sets.{is_row_of}
use Rattle.pol_filters.specs.declared.filter.Filter.{Filter}
use Rattle.pol_filters.specs.declared.filter.Filters.{Filters}

abbrev pub first_row : List SetRow → Peer → Option SetRow
first_row rows p = find (is_row_of p) rows

-- the table has for each peer its first row
abbrev pub IsTableOf : {S : Type 0} → HashMap (Bor Peer) (Bor SetRow) S → List SetRow → Type 0
IsTableOf table rows = (p : Peer) → option_map (λ (row : Bor SetRow). row.now) (get_by (λ (k : Bor Peer). peers.ghosts.eq p k.now) table) ≡ first_row rows p

-- the peers that filters list, each as often as it stands there
abbrev pub list_peers : List Filter → List Peer
list_peers filters = flat_map (λ one. peers_in one.peers) filters

abbrev pub filters_peers : Filters → List Peer
filters_peers filters = list_peers filters.ingress ++ list_peers filters.egress
