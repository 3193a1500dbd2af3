-- What tells the changes of sets since a revision, and how it goes on with each request.
use Rattle.std.specs.Prelude.{ℕ, ◌≡◌, ◌+◌, ◌<◌, ◌≤◌, ◌↔◌, List, length, map, slice_get, Some}
use Rattle.std.specs.List.{AllByRecursion}
use Rattle.pol_rule.specs.declared.policy.Peer.{Peer}
use Rattle.pol_model.specs.declared.options.Options.{Options}
use Rattle.pol_model.specs.declared.request.Request.{Request}
use Rattle.pol_model.specs.After.{after, state_of}
use Rattle.pol_model.specs.State.{State}
use Rattle.pol_model_laws.specs.WithoutFaults.{MayCommit}
use Rattle.pol_set_changes.specs.declared.change.SetChange.{SetChange}
use Rattle.pol_set_changes.specs.Recorded.{KeepsLast}
use Rattle.pol_selcache.specs.Cache.{Cache, IsSound, carried}
use Rattle.pol_selcache.specs.Live.{AreExact, Live, number_of}
use Rattle.pol_selcache.specs.Plan.{Plan}
use Rattle.pol_selcache.specs.Told.{WasAt}
use Rattle.pol_peers.specs.Numbering.{GainsSelectors, LosesSelectors}
use Rattle.pol_peers.specs.References.{RefsOf}
use Rattle.pol_allocator.specs.Held.{Prepares}
use Rattle.pol_store.specs.Store.{StandsFor, Stored, peers_with}
use Rattle.pol_set_moves.specs.Changes.{IsListedSince, revisions_until, set_in, state_at}

-- the peer's selector under a number, with the set of the state
abbrev pub selector_in : State → Peer → ℕ → Live
selector_in s p number = record { number = number; peer = p; references = 1; set = set_in s p }

-- `nexts` has for each revision the number that the next new selector would have taken. So the number of a live selector
-- is below that of a revision exactly where its peer was listed ever since. Where the log goes back so far, its changes
-- tell what the set was then; and it keeps the last of all changes that the journal makes.
pub record IsChained (options : Options) (journal : List Request) (nexts : List ℕ) (cache : Cache) : Type 0 where
  pub counted : length nexts ≡ length journal + 1
  pub reached : AllByRecursion (λ next. next ≤ cache.next) nexts
  pub listed : (since next : ℕ) → slice_get nexts since ≡ Some next → (p : Peer) (number : ℕ) → number_of p cache.live ≡ Some number
      → (number < next) ↔ IsListedSince options journal since p
  pub told : (since : ℕ) → since ≤ length journal → cache.log.horizon ≤ since → (p : Peer) (number : ℕ) → number_of p cache.live ≡ Some number
      → IsListedSince options journal since p
      → WasAt since (set_in (state_at options journal since) p) (selector_in (state_of options journal) p number) cache.log
  pub all : List SetChange
  pub kept : KeepsLast cache.log all
  pub revisions : map (λ change. change.revision) all ≡ revisions_until options journal (length journal)

-- The request may commit, and this is what it does to the selectors when it is prepared and done. First some came: each peer
-- had a reference for each of its places in the policies, and in its own policy, and each set was exact. Then a plan of the
-- next revision was carried out, which makes each set exact for the state after it. Then some went.
pub record LeadsOn (s : State) (request : Request) (old : Cache) (new : Stored) : Type 0 where
  pub mid : Cache
  pub plan : Plan
  pub gains : GainsSelectors old mid
  pub sound : IsSound mid
  pub may : MayCommit s request
  pub refs : RefsOf (peers_with s request) mid.live
  pub exact : AreExact s.identities mid.live
  pub prepares : Prepares (s.revision + 1) (after s request).identities mid plan
  pub loses : LosesSelectors (carried plan mid) new.cache
  pub stands : StandsFor (after s request) new
  pub new_sound : IsSound new.cache

-- The list is that of selectors to which some came since then, for a request that is prepared.
pub record IsChainedBefore (options : Options) (journal : List Request) (nexts : List ℕ) (cache : Cache) : Type 0 where
  pub old : Stored
  pub stands : StandsFor (state_of options journal) old
  pub sound : IsSound old.cache
  pub chained : IsChained options journal nexts old.cache
  pub gains : GainsSelectors old.cache cache
