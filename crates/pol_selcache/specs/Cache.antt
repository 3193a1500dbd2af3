-- What the selector cache is seen as, and what each call makes of it.
use Rattle.std.specs.Prelude.{ℕ, ◌+◌, ◌<◌, ◌≤◌, ◌≡◌, true, false, List, [], ◌∷◌, ◌++◌, map, fold, length, Option, Some, None}
use Rattle.std.specs.List.{AllByRecursion}
use Rattle.pol_rule.specs.declared.policy.Peer.{Peer}
use Rattle.pol_model.specs.Ascending.{Ascends}
use Rattle.pol_model.specs.declared.row.IdentityRow.{IdentityRow}
use Rattle.pol_model.specs.Selects.{set_at}
use Rattle.pol_model_laws.specs.Holding.{has_row}
use Rattle.pol_set_changes.specs.declared.change.SetChange.{SetChange}
use Rattle.pol_set_changes.specs.Log.{Log, newest, recorded}
use Rattle.pol_set_changes.specs.Log.{IsSound as IsLog}
use Rattle.pol_set_changes.specs.Ids.{has}
use Rattle.pol_selcache.specs.Live.{Live, AreExact, AreLive, rows_without, number_of, with_reference, without_reference}
use Rattle.pol_selcache.specs.Plan.{Plan, Planned, changes_for, changed}

-- the live selectors in the order of their numbers, the number that the next new one takes, and the changes of sets
pub record Cache : Type 0 where
  pub live : List Live
  pub next : ℕ
  pub log : Log

-- What every cache keeps: the live selectors fit together, their numbers are less than that of the next one, and the log
-- keeps its own law.
pub record IsSound (cache : Cache) : Type 0 where
  pub live : AreLive cache.live
  pub below : AllByRecursion (λ s. s.number < cache.next) cache.live
  pub log : IsLog cache.log

-- the cache with one reference more to the selector of this number, or else with a new one
abbrev pub added_by : Option ℕ → Peer → List IdentityRow → Cache → Cache
added_by (Some number) p rows cache = record cache { live = with_reference number cache.live }
added_by None p rows cache = record cache {
  live = cache.live ++ record { number = cache.next; peer = p; references = 1; set = set_at rows p } ∷ [];
  next = cache.next + 1;
}

-- the cache with one reference more to the peer's selector, which is new where no live one has an equal peer
abbrev pub added : Peer → List IdentityRow → Cache → Cache
added p rows cache = added_by (number_of p cache.live) p rows cache

abbrev pub or_next : Option ℕ → ℕ → ℕ
or_next (Some number) next = number
or_next None next = next

-- the number of that selector
abbrev pub number_added : Peer → Cache → ℕ
number_added p cache = or_next (number_of p cache.live) cache.next

-- the cache with one reference less to a selector, which goes with its last one
abbrev pub dropped : ℕ → Cache → Cache
dropped number cache = record cache { live = without_reference number cache.live }

-- a planned change, as the log records it
abbrev pub change_at : ℕ → Planned → SetChange
change_at revision change =
    record { selector = change.selector; revision = revision; gained = change.gained; lost = change.lost }

-- the log with each change of the plan, in turn
abbrev pub all_recorded : Plan → Log → Log
all_recorded plan log = fold (λ log change. recorded log (change_at plan.revision change)) log plan.changes

-- the cache once the plan is carried out
abbrev pub carried : Plan → Cache → Cache
carried plan cache = record cache { live = changed plan.changes cache.live; log = all_recorded plan cache.log }

-- The plan is one for these selectors: its revision is above that of every change so far, there is room for its changes,
-- and they are those that make each set exact over some rows, which ascend by number.
pub record IsPlanFor (plan : Plan) (cache : Cache) : Type 0 where
  pub newer : newest cache.log < plan.revision
  pub room : length plan.changes ≤ cache.log.spare
  pub rows : List IdentityRow
  pub ascend : Ascends (map (λ row. row.number) rows)
  pub changes : plan.changes ≡ changes_for rows cache.live

-- the same cache with this room in its log
abbrev pub with_room : ℕ → Cache → Cache
with_room spare cache = record cache { log = record cache.log { spare = spare } }

-- What a plan asks: its revision is 1 at least and above that of every change so far; the numbers that come and go are held, and none
-- does both; and the sets are exact over the rows of the numbers that don't come.
pub record MayPlan (revision : ℕ) (come gone : List ℕ) (rows : List IdentityRow) (cache : Cache) : Type 0 where
  pub newer : newest cache.log < revision
  pub come_held : AllByRecursion (λ number. has_row number rows ≡ true) come
  pub gone_held : AllByRecursion (λ number. has_row number rows ≡ true) gone
  pub apart : AllByRecursion (λ number. has number gone ≡ false) come
  pub exact : AreExact (rows_without come rows) cache.live

-- The number may come to sets that are exact over the rows before: what a plan at any later revision asks holds then.
abbrev pub MayCome : ℕ → List IdentityRow → List IdentityRow → Type 0
MayCome number before after =
    (revision : ℕ) (cache : Cache) → newest cache.log < revision → AreExact before cache.live → MayPlan revision (number ∷ []) [] after cache
