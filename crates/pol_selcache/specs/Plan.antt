-- What a plan changes, and the sets once it is carried out.
use Rattle.std.specs.Prelude.{ℕ, ◌==◌, ◌&&◌, Bool, if◌then◌else◌, List, map, find, Option, None, Some, length}
use Rattle.std.specs.List.{filter_map}
use Rattle.std.specs.Option.{option_map_or}
use Rattle.pol_model.specs.declared.row.IdentityRow.{IdentityRow}
use Rattle.pol_model.specs.Selects.{set_at}
use Rattle.pol_set_changes.specs.Ids.{without}
use Rattle.pol_selcache.specs.Live.{Live}

-- the change of one selector's set: the numbers that come and those that go, one at least, and the set afterwards
pub record Planned : Type 0 where
  pub selector : ℕ
  pub gained : List ℕ
  pub lost : List ℕ
  pub set : List ℕ

-- the changes of one revision
pub record Plan : Type 0 where
  pub revision : ℕ
  pub changes : List Planned

abbrev pub is_empty : List ℕ → Bool
is_empty numbers = length numbers == 0

-- the change that makes `set` the selector's set, and none where that adds and takes nothing
abbrev pub change_to : List ℕ → Live → Option Planned
change_to set s =
    if is_empty (without set s.set) && is_empty (without s.set set) then None
    else Some (record { selector = s.number; gained = without set s.set; lost = without s.set set; set = set })

-- the changes that make the sets exact over the rows, by the selectors' numbers
abbrev pub changes_for : List IdentityRow → List Live → List Planned
changes_for rows live = filter_map (λ s. change_to (set_at rows s.peer) s) live

-- the set that the changes give a selector: where none is of it, the one that it has
abbrev pub set_in : List Planned → Live → List ℕ
set_in changes s = option_map_or (λ change. change.set) (find (λ change. change.selector == s.number) changes) s.set

-- the selector with that set
abbrev pub after_changes : List Planned → Live → Live
after_changes changes s = record s { set = set_in changes s }

-- the selectors once the changes are made
abbrev pub changed : List Planned → List Live → List Live
changed changes live = map (after_changes changes) live

-- the plan of a revision that makes the sets exact over the rows
abbrev pub plan_for : ℕ → List IdentityRow → List Live → Plan
plan_for revision rows live = record { revision = revision; changes = changes_for rows live }
