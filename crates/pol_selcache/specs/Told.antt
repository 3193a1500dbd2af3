-- What a selector's set was, as its changes tell.
use Rattle.std.specs.Prelude.{◌≡◌, ℕ, ◌<◌, ◌≤◌, List, filter, Some}
use Rattle.std.specs.List.{Contains}
use Rattle.std.specs.List.Sorted.{IsStrictlySortedBy}
use Rattle.std.specs.Ordering.{nat_cmp}
use Rattle.pol_sets.specs.declared.sets.Move.{Move}
use Rattle.pol_set_changes.specs.declared.change.SetChange.{SetChange}
use Rattle.pol_set_changes.specs.Log.{Log, is_later_of, newest, since}
use Rattle.pol_set_changes.specs.Log.{IsSound as IsLog}
use Rattle.pol_set_changes.specs.Net.{after_all}
use Rattle.pol_set_changes.specs.Sets.{AllFit, IsMove}
use Rattle.pol_selcache.specs.Cache.{Cache, IsPlanFor, IsSound, carried}
use Rattle.pol_selcache.specs.Live.{Live}
use Rattle.pol_selcache.specs.Plan.{Plan, after_changes}

-- the changes of a selector that are later than a revision, newest first
abbrev pub changes_after : ℕ → ℕ → Log → List SetChange
changes_after revision number log = filter (is_later_of number revision) log.kept

-- The selector's set was this one at the revision: the log goes back so far, and the later changes lead from it to the
-- set of now, each gaining what wasn't there and losing what was.
pub record WasAt (revision : ℕ) (before : List ℕ) (s : Live) (log : Log) : Type 0 where
  pub kept : log.horizon ≤ revision
  pub ascends : IsStrictlySortedBy nat_cmp before
  pub fit : AllFit before (changes_after revision s.number log)
  pub leads : after_all before (changes_after revision s.number log) ≡ s.set

-- The net change since then is the difference between that set and the one of now.
abbrev pub TellsDifference : Type 0
TellsDifference =
    (revision : ℕ) (before : List ℕ) (s : Live) (log : Log) → WasAt revision before s log
    → (m : Move) × (since log s.number revision ≡ Some m) × IsMove before s.set m

-- What a set is after the newest change is what it was at each revision from then on.
abbrev pub StartsTold : Type 0
StartsTold =
    (revision : ℕ) (s : Live) (log : Log) → IsLog log → newest log ≤ revision → IsStrictlySortedBy nat_cmp s.set
    → WasAt revision s.set s log

-- What it was stays told while plans of later revisions are carried out, as long as the log goes back so far.
abbrev pub StaysTold : Type 0
StaysTold =
    (revision : ℕ) (before : List ℕ) (s : Live) (plan : Plan) (cache : Cache)
    → IsSound cache → IsLog cache.log → IsPlanFor plan cache → Contains cache.live s
    → revision < plan.revision → (carried plan cache).log.horizon ≤ revision
    → WasAt revision before s cache.log → WasAt revision before (after_changes plan.changes s) (carried plan cache).log
