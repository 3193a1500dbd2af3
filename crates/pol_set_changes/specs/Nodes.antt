-- What a `ChangeLog` keeps. No public clause cites this module.
use Rattle.std.specs.Prelude.{◌≡◌, ℕ, ◌-◌, ◌<◌, ◌≤◌, ◌%◌, ◌==◌, nat_lt, min, if◌then◌else◌, List, [], ◌∷◌, length, map}
use Rattle.std.specs.List.{AllByRecursion}
use Rattle.std.specs.Option.{option_map_or}
use Rattle.pol_arena.specs.Twin.{Entry, Twin, oldest, after_drop}
use Rattle.pol_set_changes.specs.declared.change.SetChange.{SetChange}
use Rattle.pol_set_changes.specs.Log.{Log, IsSound, newest_of}

-- the changes of nodes
abbrev pub values : List (Entry SetChange) → List SetChange
values es = map (λ e. e.value) es

-- the log that these fields stand for
abbrev pub log_of : Twin SetChange → ℕ → ℕ → Log
log_of nodes horizon spare = record { kept = values nodes.ages; horizon = horizon; spare = spare }

-- each change is on its selector's chain, the revision of the newest one is known, and there are nodes and chains for the
-- spare changes
pub record IsKept (nodes : Twin SetChange) (count horizon latest spare : ℕ) : Type 0 where
  pub sound : IsSound (log_of nodes horizon spare)
  pub counted : count ≡ length nodes.ages
  pub newest : latest ≡ newest_of horizon (values nodes.ages)
  pub placed : AllByRecursion (λ e. e.chain ≡ e.value.selector % 65536) nodes.ages
  pub room : min spare (65536 - count) ≤ nodes.spare
  pub chains : 0 < spare → 65536 ≤ nodes.chains

-- the nodes without the oldest, where there are 65,536
abbrev pub with_place : Twin SetChange → Twin SetChange
with_place nodes = if nat_lt (length nodes.ages) 65536 then nodes else after_drop nodes

-- and the horizon then
abbrev pub horizon_with_place : Twin SetChange → ℕ → ℕ
horizon_with_place nodes horizon =
    if nat_lt (length nodes.ages) 65536 then horizon else option_map_or (λ e. e.value.revision) (oldest nodes.ages) horizon

-- the selector's changes from the front of these on, up to the first that isn't later than the revision
abbrev pub found_in : ℕ → ℕ → List (Entry SetChange) → List SetChange
found_in selector revision [] = []
found_in selector revision (e ∷ es) =
    if nat_lt revision e.value.revision
    then (if e.value.selector == selector then e.value ∷ found_in selector revision es else found_in selector revision es)
    else []
