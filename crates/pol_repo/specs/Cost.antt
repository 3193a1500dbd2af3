-- How many peers of labels there are.
use Rattle.std.specs.Prelude.{ℕ, List, filter}
use Rattle.std.specs.Set.{distinct_count}
use Rattle.pol_rule.specs.contracts.policy.PeerPartialEq.TheImpl as peer
use Rattle.pol_model.specs.declared.row.Stamped.{Stamped}
use Rattle.pol_selcache.specs.Live.{is_label_peer}
use Rattle.pol_store.specs.Store.{peers_of}

-- how many distinct peers of labels the policies list
abbrev pub label_peers : List Stamped → ℕ
label_peers policies = distinct_count peer.ghosts.eq (filter is_label_peer (peers_of policies))
