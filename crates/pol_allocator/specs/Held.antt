-- What a contract sees of `Allocator`, and what its calls prepare and do.
use Rattle.std.specs.Prelude.{ℕ, ◌≡◌, ◌<◌, ◌⊎◌, true, List, []}
use Rattle.pol_labels.specs.declared.label.Label.{Label}
use Rattle.pol_model.specs.declared.row.IdentityRow.{IdentityRow}
use Rattle.pol_addr.specs.declared.network.Prefix.{Prefix}
use Rattle.pol_model.specs.Prefixes.{prefixes_held, prefixes_released}
use Rattle.pol_model_laws.specs.Holding.{has_row}
use Rattle.pol_model.specs.Identities.{labels_held, number_for, reserved_identities}
use Rattle.pol_set_changes.specs.Log.{empty_log, newest}
use Rattle.pol_selcache.specs.Cache.{Cache, IsPlanFor, with_room}
use Rattle.pol_selcache.specs.Live.{AreExact}
use Rattle.pol_selcache.specs.Plan.{Plan, changed}

-- the rows of the held numbers, and the selectors with their sets and the changes of these
pub record Held : Type 0 where
  pub rows : List IdentityRow
  pub cache : Cache

-- the reserved numbers alone, and no selector
abbrev pub nothing_held : Held
nothing_held = record { rows = reserved_identities; cache = record { live = []; next = 0; log = empty_log } }

-- each selector's set is exact over the rows, and no change is of this revision or a later one
pub record IsSettled (revision : ℕ) (held : Held) : Type 0 where
  pub newer : newest held.cache.log < revision
  pub exact : AreExact held.rows held.cache.live

-- the same with this room for changes
abbrev pub with_log_room : ℕ → Held → Held
with_log_room spare held = record held { cache = with_room spare held.cache }

-- The plan is of this revision, there is room for it, and once it is carried out the sets are exact over these rows.
pub record Prepares (revision : ℕ) (rows : List IdentityRow) (cache : Cache) (plan : Plan) : Type 0 where
  pub revision_is : plan.revision ≡ revision
  pub fits : IsPlanFor plan cache
  pub exact : AreExact rows (changed plan.changes cache.live)

-- A label set is held once more, under this number; the sets are as before, and the plan makes them exact again.
pub record HoldsLabels (revision : ℕ) (labels : List Label) (old new : Held) (number : ℕ) (plan : Plan) : Type 0 where
  pub number_is : number ≡ number_for labels old.rows
  pub rows : new.rows ≡ labels_held labels old.rows
  pub sets : new.cache ≡ with_room new.cache.log.spare old.cache
  pub plan_is : Prepares revision new.rows new.cache plan

-- no number comes with the one kind of prefixes that goes with the other
abbrev pub AreApart : List Prefix → List Prefix → List IdentityRow → Type 0
AreApart taken given_up rows =
    (number : ℕ) → has_row number (prefixes_held taken rows) ≡ true
    → (has_row number rows ≡ true) ⊎ (has_row number (prefixes_released given_up (prefixes_held taken rows)) ≡ true)
