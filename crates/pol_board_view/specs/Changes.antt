-- What a change says of the event that it belongs to.
use Rattle.std.specs.Prelude.{◌≡◌, ℕ, Bool, true, false, List, [], ◌∷◌, ◌++◌, take, Option, None, Some}
use Rattle.std.specs.Arc.{arc_value}
use Rattle.pol_addr.specs.declared.address.Addr.{Addr}
use Rattle.pol_prefixes.specs.AddressTable.{AddressTable, number_in}
use Rattle.pol_model.specs.After.{state_of}
use Rattle.pol_model.specs.declared.options.Options.{Options}
use Rattle.pol_model.specs.declared.request.Request.{Request}
use Rattle.pol_model.specs.declared.request.Request.TheVariants.{AddEndpoint, RemoveEndpoint}
use Rattle.pol_map_changes.specs.declared.change.Change.{Change as Edit}
use Rattle.pol_mapkey.specs.Entries.{Entry as MapEntry}
use Rattle.pol_history.specs.declared.event.HistoryEvent.{HistoryEvent}
use Rattle.pol_history.specs.declared.event.HistoryEvent.TheVariants as event
use Rattle.pol_history.specs.Commits.{commits_in}
use Rattle.pol_history.specs.Content.{BoardRow, content_of, numbers_in}
use Rattle.pol_history_log.specs.Asked.{id_of}
use Rattle.pol_board_view.specs.declared.change.FaceChange.{FaceChange}
use Rattle.pol_board_view.specs.declared.change.FaceChange.TheVariants as change
use Rattle.pol_board_view.specs.Rows.{Leads, table_in}

-- the entries of the last published map of the endpoint of that name, none where there is none
abbrev pub table_held : Option BoardRow → List MapEntry
table_held None = []
table_held (Some row) = table_in row.map

abbrev pub table_shown : Options → List HistoryEvent → List ℕ → List MapEntry
table_shown options history name = table_held ((content_of options history).live name)

-- whether an endpoint comes or goes by the request
abbrev pub moves_endpoints : Request → Bool
moves_endpoints (AddEndpoint name labels address) = true
moves_endpoints (RemoveEndpoint name) = true
moves_endpoints other = false

-- The changes lead from the last published map to the table, and the addresses are those of the revision.
pub record IsMadeOf (options : Options) (history : List HistoryEvent) (name : List ℕ) (revision : ℕ) (edits : List Edit) (addresses : AddressTable)
    (table : List MapEntry) : Type 0 where
  pub leads : Leads edits (table_shown options history name) table
  pub numbers : (address : Addr) → number_in address addresses ≡ numbers_in (state_of options (take revision (commits_in history))) address

-- the change is that of the event, which comes after the history
abbrev pub Tells : Options → List HistoryEvent → FaceChange → HistoryEvent → Type 0
Tells options history (change.Added name) (event.Commit pass number (AddEndpoint added labels address)) = name ≡ added
Tells options history (change.Removed name) (event.Commit pass number (RemoveEndpoint removed)) = name ≡ removed
Tells options history change.Nothing (event.Commit pass number request) = moves_endpoints request ≡ false
Tells options history (change.Published name added revision edits addresses) (event.Publish endpoint at table) =
    (endpoint ≡ id_of name added) × (at ≡ revision) × IsMadeOf options history name revision edits (arc_value addresses) table
Tells options history (change.Blocked name added revision) (event.Blocked endpoint at count) = (endpoint ≡ id_of name added) × (at ≡ revision)
Tells options history other new = ⊥

-- how many commits the change's event is
abbrev pub commit_count : FaceChange → ℕ
commit_count change.Nothing = 1
commit_count (change.Added name) = 1
commit_count (change.Removed name) = 1
commit_count (change.Published name added revision edits addresses) = 0
commit_count (change.Blocked name added revision) = 0

-- the change is that of the last event
pub record IsChangeOf (options : Options) (new : FaceChange) (history : List HistoryEvent) : Type 0 where
  pub tells : (before : List HistoryEvent) (last : HistoryEvent) → history ≡ before ++ last ∷ [] → Tells options before new last
