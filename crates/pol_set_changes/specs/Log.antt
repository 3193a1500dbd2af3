-- What a contract sees of a `ChangeLog`.
use Rattle.std.specs.Prelude.{ℕ, ◌-◌, ◌%◌, ◌≤◌, Bool, ◌==◌, ◌&&◌, nat_lt, if◌then◌else◌, ⊤, List, [], ◌∷◌, length, take, filter, slice_get, Option, Some, None}
use Rattle.std.specs.Option.{option_map_or}
use Rattle.pol_sets.specs.declared.sets.Move.{Move}
use Rattle.pol_set_changes.specs.declared.change.SetChange.{SetChange}
use Rattle.pol_set_changes.specs.Net.{net}

-- the changes that are kept, newest first, the revision of the newest change that was dropped or 0, and how many
-- changes can be recorded without memory
pub record Log : Type 0 where
  pub kept : List SetChange
  pub horizon : ℕ
  pub spare : ℕ

-- no change was recorded
abbrev pub empty_log : Log
empty_log = record { kept = []; horizon = 0; spare = 0 }

-- the log after a change: the last 65,536 are kept, and the horizon is the revision of the one before them, if this
-- change pushed one out
abbrev pub recorded : Log → SetChange → Log
recorded log c = record {
  kept = take 65536 (c ∷ log.kept);
  horizon = option_map_or (λ d. d.revision) (slice_get (c ∷ log.kept) 65536) log.horizon;
  spare = log.spare - 1;
}

-- the change is later than the revision, and the selector's
abbrev pub is_later_of : ℕ → ℕ → SetChange → Bool
is_later_of selector revision c = nat_lt revision c.revision && (c.selector == selector)

-- the net change of the selector's set since the revision: none below the horizon
abbrev pub since : Log → ℕ → ℕ → Option Move
since log selector revision =
    if nat_lt revision log.horizon then None else Some (net selector (filter (is_later_of selector revision) log.kept))

-- the revision of the newest of these changes, or the horizon
abbrev pub newest_of : ℕ → List SetChange → ℕ
newest_of horizon [] = horizon
newest_of horizon (c ∷ cs) = c.revision

-- the revision of the newest change so far, or 0
abbrev pub newest : Log → ℕ
newest log = newest_of log.horizon log.kept

-- the change is of a selector that shares this one's chain
abbrev pub shares_chain : ℕ → SetChange → Bool
shares_chain selector c = c.selector % 65536 == selector % 65536

-- a revision since which the selector's set hasn't changed: that of the newest change on its chain, or the horizon
abbrev pub unchanged_since : ℕ → Log → ℕ
unchanged_since selector log = newest_of log.horizon (filter (shares_chain selector) log.kept)

-- no change is newer than the next newer one, nor the horizon than any
abbrev pub InOrder : ℕ → List SetChange → Type 0
InOrder horizon [] = ⊤
InOrder horizon (c ∷ cs) = (newest_of horizon cs ≤ c.revision) × InOrder horizon cs

-- what holds of every log
pub record IsSound (log : Log) : Type 0 where
  pub few : length log.kept ≤ 65536
  pub in_order : InOrder log.horizon log.kept
