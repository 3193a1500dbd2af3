-- The last published map, where it is lent out.
use Rattle.std.proofs.Common.{◌≡◌, List, Option, None, Some, Result, IfOk, ◌∙◌, subst}
use Rattle.std.specs.FinMap as finite
use Rattle.pol_mapkey.specs.Entries.{Entry as MapEntry}
use Rattle.pol_trie.specs.PolicyMap.{PolicyMap}
use Rattle.pol_map_changes.specs.declared.change.Change.{Change}
use Rattle.pol_history.specs.Content.{BoardRow, PublishedMap}
use Rattle.pol_history_log.specs.NextMap.{map_before, next_entries}
use Rattle.pol_board_view.specs.declared.row.FaceRow.{FaceRow}
use Rattle.pol_board_view.specs.Changes.{table_held}
use Rattle.pol_board_view.specs.Rows.{HoldsMap, HoldsRow, Leads, table_in}
use Rattle.pol_board_view.proofs.Holding.{no_entries}

pub no_map : (held : Option PublishedMap) → HoldsMap None held → finite.entries (map_before None) ≡ table_in held
no_map None holds = no_entries
no_map (Some map) holds = absurd holds

no_row_there : (held : Option BoardRow) → HoldsRow None held → finite.entries (map_before None) ≡ table_held held
no_row_there None holds = no_entries
no_row_there (Some row) holds = absurd holds

pub no_row : (row : Option FaceRow) (held : Option BoardRow) → row ≡ None → HoldsRow row held → finite.entries (map_before None) ≡ table_held held
no_row row held none holds = no_row_there held (subst (λ (r : Option FaceRow). HoldsRow r held) none holds)

row_there : {X E : Type 0} (entries : X → List MapEntry) (row : FaceRow) (held : Option BoardRow) (lent : Result X E)
    → ((map : Option PublishedMap) → HoldsMap row.map map → IfOk lent (λ last. entries last ≡ table_in map)) → HoldsRow (Some row) held
    → IfOk lent (λ last. entries last ≡ table_held held)
row_there entries row None lent each holds = absurd holds
row_there entries row (Some held) lent each holds = each held.map holds.map

-- what is lent of a row is of the endpoint whose row it is
pub of_row : {X E : Type 0} (entries : X → List MapEntry) (found : Option FaceRow) (row : FaceRow) (held : Option BoardRow) (lent : Result X E)
    → ((map : Option PublishedMap) → HoldsMap row.map map → IfOk lent (λ last. entries last ≡ table_in map)) → found ≡ Some row → HoldsRow found held
    → IfOk lent (λ last. entries last ≡ table_held held)
of_row entries found row held lent each is holds = row_there entries row held lent each (subst (λ (r : Option FaceRow). HoldsRow r held) is holds)

-- the next map has the entries that the changes lead to from the map that is shown
pub map_made : (changes : List Change) (last : Option PolicyMap) (map then shown table : List MapEntry) → map ≡ next_entries last changes
    → finite.entries (map_before last) ≡ then → then ≡ shown → Leads changes shown table → map ≡ table
map_made changes last map then shown table is lent same leads = is ∙ leads (map_before last) (lent ∙ same)
