-- Published maps have few entries, so a trie has room for a change from one to the next.
use Rattle.std.proofs.Common.{◌≡◌, ℕ, ◌+◌, ◌≤◌, ◌==◌, Bool, true, false, cond, List, [], ◌∷◌, ◌++◌, length, Option, None, Some, sym, ap, subst, arith, bytes_eq}
use Rattle.std.specs.Prelude.{⊤, IsTrue, nat_le}
use Rattle.std.specs.FinMap as finite
use Rattle.indexmap.specs.IndexMap.{IndexMap, get}
use Rattle.std.proofs.lemmas.Bool.Decides.{nat_tests}
use Rattle.pol_data.specs.contracts.text.TextPartialEq.TheImpl as text
use Rattle.pol_map_changes.specs.declared.change.Change.{Change as Edit}
use Rattle.pol_map_changes.specs.Changes.{IsAscending, changed, set_count}
use Rattle.pol_mapkey.specs.Entries.{Entry as MapEntry}
use Rattle.pol_model.specs.declared.options.Options.{Options}
use Rattle.pol_model.specs.declared.request.Request.{Request}
use Rattle.pol_model.specs.declared.request.Request.TheVariants.{AddEndpoint, RemoveEndpoint, AddIdentity, RemoveIdentity, Apply, Remove, SetMode}
use Rattle.pol_model.specs.FullRows.{fits_limit}
use Rattle.pol_trie.specs.PolicyMap.{PolicyMap}
use Rattle.pol_history.specs.declared.event.HistoryEvent.{HistoryEvent}
use Rattle.pol_history.specs.declared.event.HistoryEvent.TheVariants as event
use Rattle.pol_history.specs.Commits.{commits_in}
use Rattle.pol_history.specs.Content.{BoardRow, Content, PublishedMap, added_row, content_after, content_of, if_of, live_after, row_blocked, row_published}
use Rattle.pol_history.specs.Legal.{IsLegal}
use Rattle.pol_history.specs.MayFollow.{MayFollow}
use Rattle.pol_history.proofs.Contents.{content-more}
use Rattle.pol_history.proofs.LegalEvents.{legal_front, legal_last}
use Rattle.pol_history.proofs.Lists.{by_growth}
use Rattle.pol_board_view.specs.declared.change.FaceChange.{FaceChange}
use Rattle.pol_board_view.specs.declared.change.FaceChange.TheVariants as change
use Rattle.pol_board_view.specs.declared.row.FaceRow.{FaceRow}
use Rattle.pol_board_view.specs.declared.row.FaceMap.{FaceMap}
use Rattle.pol_board_view.specs.Changes.{Tells, table_held}
use Rattle.pol_board_view.specs.Room.{HaveRoom, IsLimited}
use Rattle.pol_board_view.specs.Rows.{HasRoom, Holds, HoldsMap, HoldsRow, Leads, RowHasRoom, table_in}
use Rattle.pol_map_changes.proofs.Counting.{sets_fit}
use Rattle.pol_board_view.proofs.Holding.{no_entries}

-- ---- the maps of a content

few_entries : (options : Options) (table : List MapEntry) → IsLimited options → IsTrue (fits_limit options.map_max (length table)) → length table ≤ 65536
few_entries options table limited fits =
    let low : IsTrue (nat_le (length table) limited.limit) = subst (λ (o : Option ℕ). IsTrue (fits_limit o (length table))) limited.is fits in
    grind (arith, nat_tests, low, limited.low)

abbrev FewIn : Option PublishedMap → Type 0
FewIn None = ⊤
FewIn (Some map) = length map.table ≤ 65536

abbrev FewAt : Option BoardRow → Type 0
FewAt None = ⊤
FewAt (Some row) = FewIn row.map

few_step : (test : Bool) (one other : Option BoardRow) → FewAt one → FewAt other → FewAt (cond test one other)
few_step true one other here there = here
few_step false one other here there = there

few_changed : (row : Option BoardRow) (added : ℕ) (after : BoardRow → BoardRow) → ((r : BoardRow) → FewIn r.map → FewIn (after r).map) → FewAt row
    → FewAt (if_of added after row)
few_changed None added after keeps few = tt
few_changed (Some row) added after keeps few = few_step (row.added == added) (Some (after row)) (Some row) (keeps row few) few

few_committed : (commits : ℕ) (live : List ℕ → Option BoardRow) (request : Request) → ((name : List ℕ) → FewAt (live name)) → (name : List ℕ)
    → FewAt (live_after commits live request name)
few_committed commits live (AddEndpoint added labels address) few name =
    few_step (bytes_eq added name) (Some (added_row commits)) (live name) tt (few name)
few_committed commits live (RemoveEndpoint removed) few name = few_step (bytes_eq removed name) None (live name) tt (few name)
few_committed commits live (AddIdentity added labels) few name = few name
few_committed commits live (RemoveIdentity removed) few name = few name
few_committed commits live (Apply policy) few name = few name
few_committed commits live (Remove key) few name = few name
few_committed commits live (SetMode mode) few name = few name

few_after : (options : Options) (history : List HistoryEvent) (content : Content) (new : HistoryEvent) → IsLimited options → MayFollow options history new
    → ((name : List ℕ) → FewAt (content.live name)) → (name : List ℕ) → FewAt ((content_after options (commits_in history) content new).live name)
few_after options history content (event.Commit pass number request) limited may few name =
    few_committed (content.commits + 1) content.live request few name
few_after options history content (event.Publish endpoint revision table) limited may few name =
    let shown = row_published options (commits_in history) revision table content.commits in
    few_step (bytes_eq endpoint.name name) (if_of endpoint.added shown (content.live name)) (content.live name)
    (few_changed (content.live name) endpoint.added shown (λ row was. few_entries options table limited may.fits) (few name)) (few name)
few_after options history content (event.Blocked endpoint revision count) limited may few name =
    let blocked = row_blocked revision content.commits in
    few_step (bytes_eq endpoint.name name) (if_of endpoint.added blocked (content.live name)) (content.live name)
    (few_changed (content.live name) endpoint.added blocked (λ row was. was) (few name)) (few name)

content-few : (options : Options) → IsLimited options → (history : List HistoryEvent) → IsLegal options history → (name : List ℕ)
    → FewAt ((content_of options history).live name)
content-few options limited =
    by_growth (λ (h : List HistoryEvent). IsLegal options h → (name : List ℕ) → FewAt ((content_of options h).live name))
    (λ legal name. tt)
    (λ h new so_far legal name.
    subst (λ (c : Content). FewAt (c.live name)) (sym (content-more options h new))
    (few_after options h (content_of options h) new limited (legal_last options h new legal) (so_far (legal_front options h (new ∷ []) legal)) name))

-- ---- room for a change

few_set : (edits : List Edit) → IsAscending edits → (trie : PolicyMap) (table : List MapEntry) → finite.entries (changed edits trie) ≡ table → length table ≤ 65536
    → set_count edits ≤ 65536
few_set edits ascending trie table makes few =
    let fits = sets_fit edits ascending trie in
    let many = finite.len-entries (changed edits trie) in
    let made = ap length makes in
    omega (arith, fits, many, made, few)

map_room : (shown : Option FaceMap) (held : Option PublishedMap) (edits : List Edit) (table : List MapEntry) → HoldsMap shown held → FewIn held
    → Leads edits (table_in held) table → length table ≤ 65536 → HasRoom shown edits
map_room None None edits table holds was leads few = λ ascending.
    let sets = few_set edits ascending finite.empty table (leads finite.empty no_entries) few in omega (arith, sets)
map_room None (Some map) edits table holds was leads few = absurd holds
map_room (Some shown) None edits table holds was leads few = absurd holds
map_room (Some shown) (Some map) edits table holds was leads few = λ whole ascending.
    let is = holds whole in
    let sets = few_set edits ascending shown.trie table (leads shown.trie is.table) few in
    let many = finite.len-entries shown.trie in
    let held = ap length is.table in
    omega (arith, sets, many, held, was)

row_room : (row : Option FaceRow) (held : Option BoardRow) (edits : List Edit) (table : List MapEntry) → HoldsRow row held → FewAt held
    → Leads edits (table_held held) table → length table ≤ 65536 → RowHasRoom row edits
row_room None held edits table holds was leads few = tt
row_room (Some row) None edits table holds was leads few = absurd holds
row_room (Some row) (Some held) edits table holds was leads few = map_room row.map held.map edits table holds.map was leads few

-- the rows of a face have room for the change of the next event
pub have_room : {S : Type 0} (options : Options) (history : List HistoryEvent) (new : HistoryEvent) → IsLimited options → IsLegal options (history ++ new ∷ [])
    → (rows : IndexMap (List ℕ) FaceRow S) → Holds rows (content_of options history).live → (told : FaceChange) → Tells options history told new → HaveRoom rows told
have_room options history new limited legal rows holds change.Nothing tells = tt
have_room options history new limited legal rows holds (change.Added name) tells = tt
have_room options history new limited legal rows holds (change.Removed name) tells = tt
have_room options history new limited legal rows holds (change.Blocked name added revision) tells = tt
have_room options history (event.Commit pass number request) limited legal rows holds (change.Published name added revision edits addresses) tells = absurd tells
have_room options history (event.Blocked endpoint at count) limited legal rows holds (change.Published name added revision edits addresses) tells = absurd tells
have_room options history (event.Publish endpoint at table) limited legal rows holds (change.Published name added revision edits addresses) tells =
    let new = event.Publish endpoint at table in
    row_room (get text.ghosts.eq rows name) ((content_of options history).live name) edits table (holds.each name)
    (content-few options limited history (legal_front options history (new ∷ []) legal) name) tells.2.leads
    (few_entries options table limited (legal_last options history new legal).fits)
