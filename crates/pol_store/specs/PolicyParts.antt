-- The store with another part, as a policy's request changes it.
use Rattle.std.specs.Prelude.{List, [], Option, None, Some}
use Rattle.pol_rule.specs.declared.policy.Peer.{Peer}
use Rattle.pol_model.specs.declared.row.IdentityRow.{IdentityRow}
use Rattle.pol_model.specs.declared.row.Stamped.{Stamped}
use Rattle.pol_selcache.specs.Cache.{Cache}
use Rattle.pol_rule.specs.Listed.{listed_peers}
use Rattle.pol_store.specs.Store.{Stored}

-- the same with these rows of identities
abbrev pub with_rows : List IdentityRow → Stored → Stored
with_rows rows stored = record stored { state = record stored.state { identities = rows } }

-- the same with these selectors
abbrev pub with_cache : Cache → Stored → Stored
with_cache cache stored = record stored { cache = cache }

-- the same with these policies
abbrev pub with_policies : List Stamped → Stored → Stored
with_policies policies stored = record stored { state = record stored.state { policies = policies } }

-- the peers that the policy lists, if there is one
abbrev pub listed_of : Option Stamped → List Peer
listed_of None = []
listed_of (Some stamped) = listed_peers stamped.policy
