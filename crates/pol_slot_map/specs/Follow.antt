-- What is kept of an endpoint that is followed, and how it goes on.
use Rattle.std.specs.Prelude.{◌≡◌, ℕ, List, [], Option, None, Some, IfSome}
use Rattle.std.specs.Arc.{arc_value}
use Rattle.pol_kept_map.specs.Applies.{MovesTell, NamesFilters, PlacesDiffer}
use Rattle.pol_kept_map.specs.Work.{IsWorkOf, WorkOf, map_of}
use Rattle.pol_distill.specs.Distilled.{distilled}
use Rattle.pol_distill.specs.Sorted.{HaveSets}
use Rattle.pol_map_changes.specs.Changes.{changed, table_of, whole}
use Rattle.pol_map_changes.specs.declared.change.Change.{Change}
use Rattle.pol_filters.specs.declared.filter.Filters.{Filters}
use Rattle.pol_sets.specs.declared.sets.Move.{Move}
use Rattle.pol_sets.specs.declared.sets.SetRow.{SetRow}
use Rattle.pol_taken.specs.declared.taken.Taken.{Taken}
use Rattle.pol_trie.specs.PolicyMap.{PolicyMap}
use Rattle.pol_mapkey.specs.Entries.{Entry}
use Rattle.pol_slot_map.specs.declared.base.Base.TheVariants.{Nothing, Own}
use Rattle.pol_slot_map.specs.declared.follow.Followed.{Followed}
use Rattle.pol_slot_map.specs.Base.{IsFew, entries_in}

-- ---- the changes that are kept
abbrev pub changed_by : Option (List Change) → PolicyMap → PolicyMap
changed_by None table = table
changed_by (Some changes) table = changed changes table

-- what they make of a table
abbrev pub led : Followed → PolicyMap → PolicyMap
led f table = changed_by f.behind (changed f.pending table)

-- they lead from the table to the map that was made last
abbrev pub LeadsFrom : PolicyMap → Followed → Type 0
LeadsFrom table f = led f table ≡ table_of (map_of f.work)

-- the map that was published last
abbrev pub base_of : Followed → List Entry
base_of f = entries_in f.base f.work

-- they lead from that one
abbrev pub Leads : Followed → Type 0
Leads f = LeadsFrom (table_of (base_of f)) f

-- where all are joined, there are few
abbrev pub KeepsFew : Followed → Type 0
KeepsFew f = f.behind ≡ None → IsFew f.pending (base_of f) (map_of f.work)

-- ---- calls

-- changes to these filters and rows may be applied to the work
pub record MayApply (work : WorkOf) (filters : Filters) (rows : List SetRow) (moves : Option (List Move)) : Type 0 where
  pub sets : HaveSets rows filters
  pub before : PlacesDiffer work.filters
  pub after : PlacesDiffer filters
  pub named : NamesFilters work.filters filters
  pub moved : IfSome moves (MovesTell work filters rows)

-- what was taken is followed: no map was published yet, and the changes set each entry of the map
pub record IsStartOf (taken : Taken) (f : Followed) : Type 0 where
  pub name : f.name ≡ taken.endpoint.name
  pub added : f.added ≡ taken.endpoint.added
  pub kept : f.kept ≡ taken.revision
  pub shown : f.shown ≡ None
  pub base : f.base ≡ Nothing
  pub work : IsWorkOf (arc_value taken.filters) taken.sets f.work
  pub made : map_of f.work ≡ distilled (arc_value taken.filters) taken.sets
  pub pending : f.pending ≡ whole (map_of f.work)
  pub behind : f.behind ≡ None

-- The endpoint and the map that was published last are the same. The changes lead to the map as they did before, and stay
-- few.
pub record FollowsOn (old new : Followed) : Type 0 where
  pub name : new.name ≡ old.name
  pub added : new.added ≡ old.added
  pub shown : new.shown ≡ old.shown
  pub base : base_of new ≡ base_of old
  pub leads : Leads old → Leads new
  pub few : Leads old → KeepsFew old → KeepsFew new

-- the map is the same
pub record Stays (old new : Followed) : Type 0 where
  pub follows : FollowsOn old new
  pub kept : new.kept ≡ old.kept
  pub work : new.work ≡ old.work

-- the map is that of the filters and rows at the revision
pub record GoesOn (filters : Filters) (rows : List SetRow) (revision : ℕ) (old new : Followed) : Type 0 where
  pub follows : FollowsOn old new
  pub kept : new.kept ≡ revision
  pub work : IsWorkOf filters rows new.work
  pub made : map_of new.work ≡ distilled filters rows

-- the map that was made last is the one that was published last, and no change leads on from it
pub record IsShown (old new : Followed) : Type 0 where
  pub name : new.name ≡ old.name
  pub added : new.added ≡ old.added
  pub kept : new.kept ≡ old.kept
  pub shown : new.shown ≡ Some old.kept
  pub base : new.base ≡ Own
  pub work : new.work ≡ old.work
  pub pending : new.pending ≡ []
  pub behind : new.behind ≡ None
