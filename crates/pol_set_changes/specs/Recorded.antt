-- What a log says of all changes that were ever recorded, listed newest first.
use Rattle.std.specs.Prelude.{◌≡◌, ◌≤◌, ℕ, ◌==◌, ◌&&◌, nat_le, nat_lt, if◌then◌else◌, List, [], ◌∷◌, take, filter, slice_get, Some, None}
use Rattle.std.specs.List.Sorted.{IsStrictlySortedBy}
use Rattle.std.specs.Option.{option_map_or}
use Rattle.std.specs.Ordering.{nat_cmp}
use Rattle.pol_sets.specs.declared.sets.Move.{Move}
use Rattle.pol_set_changes.specs.declared.change.SetChange.{SetChange}
use Rattle.pol_set_changes.specs.Net.{net, after_all}
use Rattle.pol_set_changes.specs.Log.{Log, empty_log, recorded, is_later_of, since, unchanged_since, InOrder, IsSound}
use Rattle.pol_set_changes.specs.Sets.{AllFit, IsMove}

-- the revision of the change that exactly 65,536 follow, or 0
abbrev pub horizon_of : List SetChange → ℕ
horizon_of all = option_map_or (λ c. c.revision) (slice_get all 65536) 0

-- the log keeps the last of all these changes
pub record KeepsLast (log : Log) (all : List SetChange) : Type 0 where
  pub kept : log.kept ≡ take 65536 all
  pub horizon : log.horizon ≡ horizon_of all

-- A log without changes does, and after one more change it does again.
pub record LogsKeepLast : Type 0 where
  pub first : KeepsLast empty_log []
  pub next : (log : Log) (all : List SetChange) (c : SetChange) → KeepsLast log all → KeepsLast (recorded log c) (c ∷ all)

-- So what is kept tells the net change since the horizon that all changes tell.
abbrev pub KeptChangesTell : Type 0
KeptChangesTell =
    (log : Log) (all : List SetChange) → KeepsLast log all → InOrder 0 all
    → (selector revision : ℕ)
    → since log selector revision
    ≡ (if nat_lt revision (horizon_of all) then None else Some (net selector (filter (is_later_of selector revision) all)))

-- the selector's changes, and those of them that aren't later than the revision
abbrev pub changes_of : ℕ → List SetChange → List SetChange
changes_of selector all = filter (λ c. c.selector == selector) all

abbrev pub changes_until : ℕ → ℕ → List SetChange → List SetChange
changes_until selector revision all = filter (λ c. nat_le c.revision revision && (c.selector == selector)) all

-- Where the selector's changes fit a set from the start on, what the log tells since a revision is the difference of the
-- set after all of them and the set at that revision.
abbrev pub SinceTellsDifference : Type 0
SinceTellsDifference =
    (log : Log) (all : List SetChange) (start : List ℕ) (selector revision : ℕ) (m : Move)
    → KeepsLast log all → InOrder 0 all
    → IsStrictlySortedBy nat_cmp start → AllFit start (changes_of selector all)
    → since log selector revision ≡ Some m
    → IsMove (after_all start (changes_until selector revision all)) (after_all start (changes_of selector all)) m

-- Since then, or any later revision, the selector's set gained nothing and lost nothing.
abbrev pub StaysUnchanged : Type 0
StaysUnchanged =
    (log : Log) (selector revision : ℕ) → IsSound log → unchanged_since selector log ≤ revision
    → since log selector revision ≡ Some (record { selector = selector; gained = []; lost = [] })
