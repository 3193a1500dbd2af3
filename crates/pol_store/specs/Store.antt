-- What a store is seen as, which state it stands for, and whose peers have references in it.
use Rattle.std.specs.Prelude.{ℕ, ◌≡◌, ◌≤◌, ◌++◌, List}
use Rattle.std.specs.List.{flat_map}
use Rattle.pol_rule.specs.declared.policy.Peer.{Peer}
use Rattle.pol_model.specs.declared.request.Request.{Request}
use Rattle.pol_model.specs.declared.request.Request.TheVariants.{Apply}
use Rattle.pol_model.specs.declared.row.Stamped.{Stamped}
use Rattle.pol_model.specs.State.{State}
use Rattle.pol_tables.specs.Tables.{SameNumbers}
use Rattle.pol_set_changes.specs.Log.{newest}
use Rattle.pol_selcache.specs.Cache.{Cache}
use Rattle.pol_selcache.specs.Live.{AreExact}
use Rattle.pol_rule.specs.Listed.{listed_peers}
use Rattle.pol_peers.specs.References.{RefsOf}
use Rattle.pol_model_laws.specs.Keeps.{Keeps}

-- for how many rows more each table has room
pub record Rooms : Type 0 where
  pub endpoints : ℕ
  pub named : ℕ
  pub policies : ℕ

-- the rows of a state as the tables have them, the selectors with their sets, and the room of the tables
pub record Stored : Type 0 where
  pub state : State
  pub cache : Cache
  pub rooms : Rooms

-- the same with this room
abbrev pub with_rooms : Rooms → Stored → Stored
with_rooms rooms stored = record stored { rooms = rooms }

-- The rows are those of the state. Named identities stand in any order: each name holds the number that it holds there.
pub record IsLike (s rows : State) : Type 0 where
  pub revision : rows.revision ≡ s.revision
  pub mode : rows.mode ≡ s.mode
  pub identities : rows.identities ≡ s.identities
  pub named : SameNumbers rows.named s.named
  pub policies : rows.policies ≡ s.policies
  pub endpoints : rows.endpoints ≡ s.endpoints

-- the peers that the policies list, each as often as it stands there
abbrev pub peers_of : List Stamped → List Peer
peers_of policies = flat_map (λ stamped. listed_peers stamped.policy) policies

-- the peers that have references while the request is prepared: those of its own policy too
abbrev pub peers_with : State → Request → List Peer
peers_with s (Apply policy) = listed_peers policy ++ peers_of s.policies
peers_with s _ = peers_of s.policies

-- The store stands for the state: its rows are the state's, each peer of the policies has a reference for each of its
-- places, each selector's set is exact, and no change is later than the state.
pub record StandsFor (s : State) (stored : Stored) : Type 0 where
  pub like : IsLike s stored.state
  pub refs : RefsOf (peers_of s.policies) stored.cache.live
  pub exact : AreExact s.identities stored.cache.live
  pub newest : newest stored.cache.log ≤ s.revision

-- it stands for some state that keeps what each state keeps
pub record StandsForSome (stored : Stored) : Type 0 where
  pub state : State
  pub keeps : Keeps state
  pub stands : StandsFor state stored
