-- What is given where a plan judges one selector. No public clause cites this module.
use Rattle.std.specs.Prelude.{ℕ, ◌≡◌, true, false, List, map, fold}
use Rattle.std.specs.List.Sorted.{IsStrictlySortedBy}
use Rattle.std.specs.Ordering.{nat_cmp}
use Rattle.pol_model.specs.Ascending.{Ascends}
use Rattle.pol_model.specs.declared.row.IdentityRow.{IdentityRow}
use Rattle.pol_model.specs.Selects.{set_at}
use Rattle.pol_rule.specs.declared.policy.Peer.{Peer}
use Rattle.pol_set_changes.specs.Ids.{has}
use Rattle.pol_set_changes.specs.Log.{recorded}
use Rattle.pol_selcache.specs.Cache.{Cache, change_at}
use Rattle.pol_selcache.specs.Live.{rows_without, with_set}
use Rattle.pol_selcache.specs.Plan.{Planned}

-- the peer's set is that over the rows whose numbers don't come; the numbers that come and go ascend, and none does both
pub record Moving (rows : List IdentityRow) (come gone : List ℕ) (p : Peer) (set : List ℕ) : Type 0 where
  pub rows_ascend : Ascends (map (λ row. row.number) rows)
  pub come_ascend : IsStrictlySortedBy nat_cmp come
  pub gone_ascend : IsStrictlySortedBy nat_cmp gone
  pub apart : (number : ℕ) → has number come ≡ true → has number gone ≡ false
  pub exact : set ≡ set_at (rows_without come rows) p

-- the cache with one change made
abbrev pub one_carried : ℕ → Cache → Planned → Cache
one_carried revision cache change = record cache {
  live = with_set change.selector change.set cache.live;
  log = recorded cache.log (change_at revision change);
}

abbrev pub each_carried : ℕ → List Planned → Cache → Cache
each_carried revision changes cache = fold (one_carried revision) cache changes
