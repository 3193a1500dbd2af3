-- Which identities come and go with a request. A number keeps its labels and its prefix while it has a row: what a
-- request takes, it takes before it gives anything up, so no number that came goes, or goes and comes back.
use Rattle.std.specs.Prelude.{ℕ, ◌≡◌, ◌==◌, Bool, List, map, filter, find, count_by, Option}
use Rattle.std.specs.List.{list_any}
use Rattle.pol_addr.specs.declared.network.Prefix.{Prefix}
use Rattle.pol_rule.specs.Prefixes.{policy_prefixes}
use Rattle.pol_model.specs.declared.request.Request.{Request}
use Rattle.pol_model.specs.declared.request.Request.TheVariants.{AddEndpoint, RemoveEndpoint, AddIdentity, RemoveIdentity, Apply, Remove, SetMode}
use Rattle.pol_model.specs.declared.row.IdentityRow.{IdentityRow}
use Rattle.pol_model.specs.Identities.{labels_held}
use Rattle.pol_model.specs.Prefixes.{has_prefix, prefixes_held}
use Rattle.pol_model.specs.State.{State}

-- the row of the number
abbrev pub row_of : ℕ → List IdentityRow → Option IdentityRow
row_of number rows = find (λ row. row.number == number) rows

-- the number has a row
abbrev pub has_row : ℕ → List IdentityRow → Bool
has_row number rows = list_any (λ row. row.number == number) rows

-- the prefix has a row
abbrev pub is_held : Prefix → List IdentityRow → Bool
is_held prefix rows = list_any (λ row. has_prefix prefix row.prefix) rows

-- how many of the prefixes are the row's
abbrev pub times_named : List Prefix → IdentityRow → ℕ
times_named prefixes row = count_by (λ prefix. has_prefix prefix row.prefix) prefixes

-- the row without its count of holders
abbrev pub uncounted : IdentityRow → IdentityRow
uncounted row = record row { holders = 0 }

-- The rows are those of the others whose number they have, counts aside: the same numbers, in the same order, with
-- the same labels and prefixes.
abbrev pub IsPartOf : List IdentityRow → List IdentityRow → Type 0
IsPartOf rows others = filter (λ row. has_row row.number rows) (map uncounted others) ≡ map uncounted rows

-- the rows once a request has taken what it takes, before it gives anything up
abbrev pub rows_taken : State → Request → List IdentityRow
rows_taken s (AddEndpoint name labels address) = labels_held labels s.identities
rows_taken s (RemoveEndpoint name) = s.identities
rows_taken s (AddIdentity name labels) = labels_held labels s.identities
rows_taken s (RemoveIdentity name) = s.identities
rows_taken s (Apply policy) = prefixes_held (policy_prefixes policy) s.identities
rows_taken s (Remove key) = s.identities
rows_taken s (SetMode mode) = s.identities
