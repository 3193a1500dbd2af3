-- The sets of the peers that policies list.
use Rattle.std.specs.Prelude.{◌≡◌, List, IsTrue}
use Rattle.std.specs.Arc.{arc_value}
use Rattle.std.specs.List.{AllByRecursion, flat_map}
use Rattle.pol_rule.specs.declared.policy.Peer.{Peer}
use Rattle.pol_rule.specs.Listed.{listed_peers}
use Rattle.pol_model.specs.declared.row.IdentityRow.{IdentityRow}
use Rattle.pol_model.specs.declared.row.Stamped.{Stamped}
use Rattle.pol_model.specs.Selects.{set_at}
use Rattle.pol_sets.specs.declared.sets.SetRow.{SetRow}
use Rattle.pol_sets.specs.Sets.{has_set}

-- the peers that the policies list, each as often as it stands there
abbrev pub peers_of : List Stamped → List Peer
peers_of policies = flat_map (λ stamped. listed_peers stamped.policy) policies

-- the rows give the numbers that their peers select among the identities
abbrev pub AreExact : List IdentityRow → List SetRow → Type 0
AreExact identities rows = AllByRecursion (λ row. arc_value row.set ≡ set_at identities row.peer) rows

-- each of the peers has a row, and all rows are exact
pub record AreSetsOf (identities : List IdentityRow) (peers : List Peer) (rows : List SetRow) : Type 0 where
  pub every : AllByRecursion (λ p. IsTrue (has_set rows p)) peers
  pub exact : AreExact identities rows
