-- The lists by the rows of states are those of the definitions.
use Rattle.std.proofs.Common.{◌≡◌, not, Bool, List, map, filter, ap, ◌∙◌}
use Rattle.pol_addr.specs.declared.network.Prefix.{Prefix}
use Rattle.pol_model.specs.declared.options.Options.{Options}
use Rattle.pol_model.specs.State.{State}
use Rattle.pol_model_laws.specs.Keeps.{Keeps}
use Rattle.pol_port_ranges.specs.Ranges.{all_ports}
use Rattle.pol_connections.specs.declared.end.Connection.{Connection}
use Rattle.pol_connections.specs.declared.end.EndName.{EndName}
use Rattle.pol_connections.specs.Connections.{all_ranges, changes_below, changes_of, connections_below, connections_of, ends_alone, has_end, said_alone, said_changed}
use Rattle.pol_connections.specs.Ends.{End, ends_of}
use Rattle.pol_connections.specs.Regions.{regions_of}
use Rattle.pol_connection_maps.specs.declared.end_row.EndRow.{EndRow}
use Rattle.pol_connection_maps.specs.declared.rows.StateRows.{StateRows}
use Rattle.pol_connection_maps.specs.EndRows.{end_rows}
use Rattle.pol_connection_maps.specs.Lists.{AreSeenOf, changed_list, kept_ends, names_alone, open_list}
use Rattle.pol_connection_maps.specs.Rows.{AreRowsOf}
use Rattle.pol_connection_maps.specs.Seen.{Kept, Seen}
use Rattle.pol_connection_maps.proofs.Apart.{names_apart}
use Rattle.pol_connection_maps.proofs.Changing.{changed}
use Rattle.pol_connection_maps.proofs.Opened.{opened}
use Rattle.pol_connection_maps.proofs.Peopled.{peopled, rows_are}

pub open_is : (rows : StateRows) (regions : List Prefix) (ends : List Seen) (list : List Connection) → regions ≡ regions_of rows.identities.now rows.identities.now → AreSeenOf rows regions ends
    → list ≡ open_list ends → (options : Options) (s : State) → AreRowsOf options s rows → Keeps s → list ≡ connections_of options s
unfolding connections_below
open_is rows regions ends list is seen made options s are keeps =
    made ∙ opened options s (ends_of regions s) ends (peopled options s rows regions ends keeps are seen)
    ∙ ap (λ (r : List Prefix). all_ranges all_ports (said_alone options s) (ends_of r s)) (is ∙ (λ i. regions_of (are.identities i) (are.identities i)))

pub change_is : (halves : Bool) (before after : StateRows) (regions : List Prefix) (was now : List Seen) (kept : List Kept) (list : List Connection)
    → regions ≡ regions_of before.identities.now after.identities.now → AreSeenOf before regions was → AreSeenOf after regions now → kept ≡ kept_ends halves was now → list ≡ changed_list kept
    → (options : Options) (s t : State) → AreRowsOf options s before → AreRowsOf options t after → Keeps s → Keeps t → list ≡ changes_of halves options s t
unfolding changes_below
change_is halves before after regions was now kept list is seen_before seen_after both made options s t are_before are_after keeps_before keeps_after =
    made ∙ ap changed_list both
    ∙ changed halves options s t (ends_of regions s) was (peopled options s before regions was keeps_before are_before seen_before)
    (ends_of regions t) now (peopled options t after regions now keeps_after are_after seen_after)
    ∙ ap (λ (r : List Prefix). all_ranges all_ports (said_changed halves options s (ends_of r s) t) (filter (has_end (ends_of r s)) (ends_of r t)))
    (is ∙ (λ i. regions_of (are_before.identities i) (are_after.identities i)))

pub alone_is : (one other : StateRows) (regions : List Prefix) (first second : List EndRow) (names : List EndName)
    → regions ≡ regions_of one.identities.now other.identities.now → first ≡ end_rows one regions → second ≡ end_rows other regions → names ≡ names_alone first second
    → (options later : Options) (s t : State) → AreRowsOf options s one → AreRowsOf later t other → names ≡ ends_alone s t
unfolding ends_alone
alone_is one other regions first second names is rows_one rows_other made options later s t are_one are_other =
    let a = rows_one ∙ rows_are options s one regions are_one in
    let b = rows_other ∙ rows_are later t other regions are_other in
    made ∙ (λ i. names_alone (a i) (b i)) ∙ names_apart (ends_of regions s) (ends_of regions t)
    ∙ ap (λ (r : List Prefix). map (λ (end : End). end.name) (filter (λ end. not (has_end (ends_of r s) end)) (ends_of r t)))
    (is ∙ (λ i. regions_of (are_one.identities i) (are_other.identities i)))
