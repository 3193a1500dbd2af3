-- The policy maps of the numbers that label sets have.
use Rattle.std.specs.Prelude.{ℕ, ◌≡◌, ◌==◌, not, Bool, List, map, filter, find, Option, option_map}
use Rattle.std.specs.BTreeMap.{BTreeMap, get}
use Rattle.std.specs.Ordering.{nat_cmp}
use Rattle.std.proofs.Common.{Bor}
use Rattle.pol_labels.specs.declared.label.Label.{Label}
use Rattle.pol_mapkey.specs.Entries.{Entry}
use Rattle.pol_model.specs.declared.row.IdentityRow.{IdentityRow}
use Rattle.pol_model.specs.Identities.{is_local}
use Rattle.pol_sets.specs.declared.sets.SetRow.{SetRow}
use Rattle.pol_filters.specs.declared.filter.Filters.{Filters}
use Rattle.pol_filters.specs.Resolved.{filters_for}
use Rattle.pol_distill.specs.Distilled.{distilled}
use Rattle.pol_connection_maps.specs.declared.rows.StateRows.{StateRows}

-- the map of whoever has a number, and the filters that it is made of
pub record NumberEntries : Type 0 where
  pub number : ℕ
  pub filters : Filters
  pub entries : List Entry

-- what the policies say of a subject with these labels
abbrev pub label_filters : StateRows → List Label → Filters
label_filters rows labels = filters_for rows.policies.now labels rows.mode rows.localhost

-- what the map of a subject with these labels has
abbrev pub label_entries : StateRows → List SetRow → List Label → List Entry
label_entries rows sets labels = distilled (label_filters rows labels) sets

abbrev pub row_entries : StateRows → List SetRow → IdentityRow → NumberEntries
row_entries rows sets row = record { number = row.number; filters = label_filters rows row.labels; entries = label_entries rows sets row.labels }

-- the numbers of prefixes have no policy
abbrev pub may_be_subject : IdentityRow → Bool
may_be_subject row = not (is_local row.number)

-- the maps of all label sets
abbrev pub number_maps : StateRows → List SetRow → List NumberEntries
number_maps rows sets = map (row_entries rows sets) (filter may_be_subject rows.identities.now)

-- the map of this number, the first where there are several
abbrev pub map_at : ℕ → List NumberEntries → Option NumberEntries
map_at number maps = find (λ own. own.number == number) maps

abbrev pub entries_at : ℕ → List NumberEntries → Option (List Entry)
entries_at number maps = option_map (λ own. own.entries) (map_at number maps)

-- the table has for each number the first map
abbrev pub AreMapsOf : List NumberEntries → BTreeMap ℕ (Bor NumberEntries) → Type 0
AreMapsOf maps table = (number : ℕ) → option_map (λ own. own.now) (get nat_cmp table number) ≡ map_at number maps
