-- What the rows of live endpoints hold.
use Rattle.std.specs.Prelude.{◌≡◌, ℕ, if◌then◌else◌, List, Option, None, Some, option_map}
use Rattle.std.specs.Arc.{arc_value}
use Rattle.std.specs.FinMap as finite
use Rattle.std.specs.Str.{bytes_eq}
use Rattle.indexmap.specs.IndexMap.{IndexMap, get}
use Rattle.pol_prefixes.specs.AddressTable.{number_in}
use Rattle.pol_data.specs.contracts.text.TextPartialEq.TheImpl as text
use Rattle.pol_trie.specs.PolicyMap.{PolicyMap}
use Rattle.pol_history.specs.Content.{BoardRow, PublishedMap}
use Rattle.pol_model.specs.declared.request.Request.{Request}
use Rattle.pol_model.specs.declared.request.Request.TheVariants.{AddEndpoint, RemoveEndpoint, AddIdentity, RemoveIdentity, Apply, Remove, SetMode}
use Rattle.pol_model.specs.declared.row.Endpoint.{Endpoint}
use Rattle.pol_machine.specs.declared.row.MachineRow.{MachineRow}
use Rattle.pol_machine.specs.declared.row.MachineMap.{MachineMap}

-- the rows, by name
abbrev pub RowsOf : Type 0
RowsOf = List ℕ → Option MachineRow

abbrev pub by_name : {S : Type 0} → IndexMap (List ℕ) MachineRow S → RowsOf
by_name rows name = get text.ghosts.eq rows name

-- the same rows
abbrev pub SameRows : RowsOf → RowsOf → Type 0
SameRows old new = (name : List ℕ) → new name ≡ old name

-- the row of one name is now this
abbrev pub with_one : List ℕ → Option MachineRow → RowsOf → RowsOf
with_one name now rows other = if bytes_eq name other then now else rows other

-- ---- the content that rows hold

abbrev pub map_held : MachineMap → PublishedMap
map_held shown =
    record { revision = shown.revision; table = finite.entries shown.trie; numbers = λ address. number_in address (arc_value shown.addresses) }

abbrev pub row_held : MachineRow → BoardRow
row_held row = record { added = row.added; report = row.report; map = option_map map_held row.map }

abbrev pub live_held : RowsOf → List ℕ → Option BoardRow
live_held rows name = option_map row_held (rows name)

-- the entries of the published map, none where there is none
abbrev pub trie_of : Option MachineMap → PolicyMap
trie_of None = finite.empty
trie_of (Some shown) = shown.trie

-- ---- commits

-- an endpoint without a report, of which no map was made
abbrev pub new_row : ℕ → MachineRow
new_row revision = record { added = revision; report = None; map = None; work = None; full = None }

-- the rows after a request, which is the commit of this number
abbrev pub rows_after : ℕ → Request → RowsOf → RowsOf
rows_after revision (AddEndpoint name labels address) rows = with_one name (Some (new_row revision)) rows
rows_after revision (RemoveEndpoint name) rows = with_one name None rows
rows_after revision (AddIdentity name labels) rows = rows
rows_after revision (RemoveIdentity name) rows = rows
rows_after revision (Apply policy) rows = rows
rows_after revision (Remove key) rows = rows
rows_after revision (SetMode mode) rows = rows

-- ---- takes

-- the revision of the map that was made last
abbrev pub kept_in : Option MachineRow → Option ℕ
kept_in None = None
kept_in (Some row) = option_map (λ f. f.kept) row.work

-- the revision that a take of this endpoint tells the moves from
abbrev pub since_of : RowsOf → Option Endpoint → Option ℕ
since_of rows None = None
since_of rows (Some endpoint) = kept_in (rows endpoint.name)
