-- The rows of the peers that filters list, as they are kept, and what is known of their numbers and sets later.
use Rattle.std.specs.Prelude.{ℕ, ◌≡◌, ◌≤◌, ◌<◌, nat_eq, List, map, Some, true, IsTrue}
use Rattle.std.specs.Arc.{arc_value}
use Rattle.std.specs.List.{AllByRecursion, Contains, IsDistinct}
use Rattle.pol_rule.specs.declared.policy.Peer.{Peer}
use Rattle.pol_model.specs.declared.row.IdentityRow.{IdentityRow}
use Rattle.pol_model.specs.Selects.{set_at}
use Rattle.pol_sets.specs.declared.sets.SetRow.{SetRow}
use Rattle.pol_sets.specs.Sets.{has_set}
use Rattle.pol_set_changes.specs.Log.{newest, unchanged_since}
use Rattle.pol_selcache.specs.Cache.{Cache}
use Rattle.pol_selcache.specs.Live.{AreExact, is_live, number_of}

-- such rows, and the revision of the newest change of any set as they were read
pub record KnownRows : Type 0 where
  pub rows : List SetRow
  pub read : ℕ

-- what a row says but for its set
abbrev pub key_of : SetRow → Peer × ℕ
key_of row = (row.peer, row.selector)

-- Each peer has a row, each row is of one of them, and no two have one selector.
pub record IsListingOf (peers : List Peer) (rows : List SetRow) : Type 0 where
  pub listed : AllByRecursion (λ row. Contains peers row.peer) rows
  pub every : AllByRecursion (λ p. IsTrue (has_set rows p)) peers
  pub once : IsDistinct nat_eq (map (λ row. row.selector) rows)

-- the selectors of these rows are live
abbrev pub HaveSelectors : Cache → List SetRow → Type 0
HaveSelectors cache rows = AllByRecursion (λ row. is_live row.selector cache.live ≡ true) rows

-- no change on these rows' chains is later than the revision, nor is the horizon where a chain has none
abbrev pub AreUnchanged : Cache → ℕ → List SetRow → Type 0
AreUnchanged cache read rows = AllByRecursion (λ row. unchanged_since row.selector cache.log ≤ read) rows

-- where the peer has the row's selector, and its set hasn't changed since, the row's set is exact wherever the selectors'
-- are
abbrev pub IsAsRead : Cache → ℕ → SetRow → Type 0
IsAsRead cache read row =
    unchanged_since row.selector cache.log ≤ read → number_of row.peer cache.live ≡ Some row.selector
    → (identities : List IdentityRow) → AreExact identities cache.live → arc_value row.set ≡ set_at identities row.peer

-- The number of the row's selector was given out, a peer that has it is the row's, and the row's set is as it was read.
pub record IsKnownRow (cache : Cache) (read : ℕ) (row : SetRow) : Type 0 where
  pub given : row.selector < cache.next
  pub own : (p : Peer) → number_of p cache.live ≡ Some row.selector → p ≡ row.peer
  pub set : IsAsRead cache read row

-- The rows were read of this cache, or of one before.
pub record IsKnownIn (cache : Cache) (kept : KnownRows) : Type 0 where
  pub before : kept.read ≤ newest cache.log
  pub rows : AllByRecursion (IsKnownRow cache kept.read) kept.rows

-- They serve as they are: their selectors are live, and no set changed.
pub record Serves (cache : Cache) (kept : KnownRows) : Type 0 where
  pub live : HaveSelectors cache kept.rows
  pub unchanged : AreUnchanged cache kept.read kept.rows
