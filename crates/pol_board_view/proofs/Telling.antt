-- What a change says of the content and of the number of commits after its event.
use Rattle.std.proofs.Common.{◌≡◌, ℕ, ◌+◌, List, [], ◌∷◌, ◌++◌, take, length, Option, None, Some, Result, Ok, Err, OnOk, refl, sym, ap, ◌∙◌, subst, arith, length-append}
use Rattle.std.specs.Arc.{arc_value}
use mathlib.Core.List.{IsPrefix}
use Rattle.indexmap.specs.IndexMap.{IndexMap, get}
use Rattle.pol_data.specs.contracts.text.TextPartialEq.TheImpl as text
use Rattle.pol_prefixes.specs.AddressTable.{AddressTable}
use Rattle.pol_map_changes.specs.declared.change.Change.{Change as Edit}
use Rattle.pol_mapkey.specs.Entries.{Entry as MapEntry}
use Rattle.pol_model.specs.After.{state_of}
use Rattle.pol_model.specs.declared.options.Options.{Options}
use Rattle.pol_model.specs.declared.request.Request.TheVariants.{AddEndpoint, RemoveEndpoint, AddIdentity, RemoveIdentity, Apply, Remove, SetMode}
use Rattle.pol_history.specs.declared.event.EndpointId.{EndpointId}
use Rattle.pol_history.specs.declared.event.HistoryEvent.{HistoryEvent}
use Rattle.pol_history.specs.declared.event.HistoryEvent.TheVariants as event
use Rattle.pol_model.specs.declared.row.Endpoint.{Endpoint}
use Rattle.pol_history.specs.declared.event.LastReport.{LastReport}
use Rattle.pol_history.specs.Commits.{Lives, commits_in, revision_of, state_now}
use Rattle.pol_history.specs.Held.{ShowsRow}
use Rattle.pol_history.specs.Legal.{IsLegal}
use Rattle.pol_history.specs.Machine.{endpoint_id}
use Rattle.pol_history.specs.Reports.{last_report}
use Rattle.pol_history.specs.Content.{BoardRow, Content, PublishedMap, added_row, content_after, content_of, numbers_in, row_blocked, with_change, with_row}
use Rattle.pol_history.proofs.Contents.{content-commits, content-more, content-rows}
use Rattle.pol_history.proofs.Lists.{no_element}
use Rattle.pol_history.proofs.Names.{live-id}
use Rattle.pol_history.proofs.Same.{live-parts}
use Rattle.pol_history.proofs.Cuts.{revision-append}
use Rattle.pol_history_log.specs.Asked.{id_of}
use Rattle.pol_board_view.specs.declared.change.FaceChange.{FaceChange}
use Rattle.pol_board_view.specs.declared.change.FaceChange.TheVariants as change
use Rattle.pol_board_view.specs.declared.row.FaceRow.{FaceRow}
use Rattle.pol_board_view.specs.Changes.{IsMadeOf, Tells, commit_count, table_held}
use Rattle.pol_board_view.specs.Rows.{ChangesMap, Holds, HoldsRow, row_with}

module _ (options : Options) (history : List HistoryEvent) where
  abbrev before : Content
  before = content_of options history

  abbrev live_then : HistoryEvent → List ℕ → Option BoardRow
  live_then new = (content_of options (history ++ new ∷ [])).live

  more : (new : HistoryEvent) → live_then new ≡ (content_after options (commits_in history) before new).live
  more new = ap (λ (c : Content). c.live) (content-more options history new)

  commits : (content_of options history).commits ≡ revision_of history
  commits = content-commits options history

  -- ---- commits

  pub live-nothing : (new : HistoryEvent) → Tells options history change.Nothing new → live_then new ≡ before.live
  live-nothing (event.Commit pass number (AddEndpoint name labels address)) tells = absurd (cc tells)
  live-nothing (event.Commit pass number (RemoveEndpoint name)) tells = absurd (cc tells)
  live-nothing (event.Commit pass number (AddIdentity name labels)) tells = more (event.Commit pass number (AddIdentity name labels))
  live-nothing (event.Commit pass number (RemoveIdentity name)) tells = more (event.Commit pass number (RemoveIdentity name))
  live-nothing (event.Commit pass number (Apply policy)) tells = more (event.Commit pass number (Apply policy))
  live-nothing (event.Commit pass number (Remove key)) tells = more (event.Commit pass number (Remove key))
  live-nothing (event.Commit pass number (SetMode mode)) tells = more (event.Commit pass number (SetMode mode))
  live-nothing (event.Publish endpoint revision table) tells = absurd tells
  live-nothing (event.Blocked endpoint revision count) tells = absurd tells

  pub live-added : (name : List ℕ) (new : HistoryEvent) → Tells options history (change.Added name) new
      → live_then new ≡ with_row name (Some (added_row (revision_of history + 1))) before.live
  live-added name (event.Commit pass number (AddEndpoint added labels address)) tells =
      more (event.Commit pass number (AddEndpoint added labels address))
      ∙ (let same : added ≡ name = sym tells in λ i. with_row (same i) (Some (added_row (commits i + 1))) before.live)
  live-added name (event.Commit pass number (RemoveEndpoint removed)) tells = absurd tells
  live-added name (event.Commit pass number (AddIdentity added labels)) tells = absurd tells
  live-added name (event.Commit pass number (RemoveIdentity removed)) tells = absurd tells
  live-added name (event.Commit pass number (Apply policy)) tells = absurd tells
  live-added name (event.Commit pass number (Remove key)) tells = absurd tells
  live-added name (event.Commit pass number (SetMode mode)) tells = absurd tells
  live-added name (event.Publish endpoint revision table) tells = absurd tells
  live-added name (event.Blocked endpoint revision count) tells = absurd tells

  pub live-removed : (name : List ℕ) (new : HistoryEvent) → Tells options history (change.Removed name) new → live_then new ≡ with_row name None before.live
  live-removed name (event.Commit pass number (RemoveEndpoint removed)) tells =
      more (event.Commit pass number (RemoveEndpoint removed)) ∙ ap (λ (n : List ℕ). with_row n None before.live) (sym tells)
  live-removed name (event.Commit pass number (AddEndpoint added labels address)) tells = absurd tells
  live-removed name (event.Commit pass number (AddIdentity added labels)) tells = absurd tells
  live-removed name (event.Commit pass number (RemoveIdentity removed)) tells = absurd tells
  live-removed name (event.Commit pass number (Apply policy)) tells = absurd tells
  live-removed name (event.Commit pass number (Remove key)) tells = absurd tells
  live-removed name (event.Commit pass number (SetMode mode)) tells = absurd tells
  live-removed name (event.Publish endpoint revision table) tells = absurd tells
  live-removed name (event.Blocked endpoint revision count) tells = absurd tells

  -- ---- reports

  -- the published map
  abbrev map_of : ℕ → List MapEntry → PublishedMap
  map_of revision table = record { revision = revision; table = table; numbers = numbers_in (state_of options (take revision (commits_in history))) }

  makes_map : (name : List ℕ) (revision : ℕ) (edits : List Edit) (addresses : AddressTable) (table : List MapEntry)
      → IsMadeOf options history name revision edits addresses table → (held : BoardRow) → before.live name ≡ Some held
      → ChangesMap edits addresses revision held.map (map_of revision table)
  makes_map name revision edits addresses table is held there = record {
    revision_is = refl;
    leads = λ old same. is.leads old (same ∙ sym (ap table_held there));
    numbers = is.numbers;
  }

  pub live-published : (name : List ℕ) (added revision : ℕ) (endpoint : EndpointId) (at : ℕ) (table : List MapEntry)
      → endpoint ≡ id_of name added → at ≡ revision
      → live_then (event.Publish endpoint at table) ≡ with_change (id_of name added) (row_with (revision_of history) revision (map_of revision table)) before.live
  live-published name added revision endpoint at table one same =
      more (event.Publish endpoint at table)
      ∙ (λ i. with_change (one i) (row_with (commits i) (same i) (map_of (same i) table)) before.live)

  pub live-blocked : (name : List ℕ) (added revision : ℕ) (endpoint : EndpointId) (at count : ℕ) → endpoint ≡ id_of name added → at ≡ revision
      → live_then (event.Blocked endpoint at count) ≡ with_change (id_of name added) (row_blocked revision (revision_of history)) before.live
  live-blocked name added revision endpoint at count one same =
      more (event.Blocked endpoint at count) ∙ (λ i. with_change (one i) (row_blocked (same i) (commits i)) before.live)

-- ---- rows that hold the content

-- what rows hold once a change was taken in, where they held the live endpoints before
abbrev pub HoldsAfter : {S : Type 0} → IndexMap (List ℕ) FaceRow S → ℕ → (List ℕ → Option BoardRow) → FaceChange → Type 0
HoldsAfter rows n live change.Nothing = Holds rows live
HoldsAfter rows n live (change.Added name) = Holds rows (with_row name (Some (added_row (n + 1))) live)
HoldsAfter rows n live (change.Removed name) = Holds rows (with_row name None live)
HoldsAfter rows n live (change.Published name added revision edits addresses) =
    (map : PublishedMap) → ((held : BoardRow) → live name ≡ Some held → held.added ≡ added → ChangesMap edits (arc_value addresses) revision held.map map)
    → Holds rows (with_change (id_of name added) (row_with n revision map) live)
HoldsAfter rows n live (change.Blocked name added revision) = Holds rows (with_change (id_of name added) (row_blocked revision n) live)

module _ {S : Type 0} (options : Options) (history : List HistoryEvent) (rows : IndexMap (List ℕ) FaceRow S) (commits : ℕ) (count : commits ≡ revision_of history) where
  held_by : (new : HistoryEvent) (live : List ℕ → Option BoardRow) → live_then options history new ≡ live → Holds rows live
      → Holds rows (content_of options (history ++ new ∷ [])).live
  held_by new live same holds = subst (λ (l : List ℕ → Option BoardRow). Holds rows l) (sym same) holds

  pub taken-in : (is : FaceChange) (new : HistoryEvent) → Tells options history is new → HoldsAfter rows commits (content_of options history).live is
      → Holds rows (content_of options (history ++ new ∷ [])).live
  taken-in change.Nothing new tells holds = held_by new (content_of options history).live (live-nothing options history new tells) holds
  taken-in (change.Added name) new tells holds =
      held_by new (with_row name (Some (added_row (commits + 1))) (content_of options history).live)
      (live-added options history name new tells
      ∙ ap (λ (n : ℕ). with_row name (Some (added_row (n + 1))) (content_of options history).live) (sym count)) holds
  taken-in (change.Removed name) new tells holds =
      held_by new (with_row name None (content_of options history).live) (live-removed options history name new tells) holds
  taken-in (change.Published name added revision edits addresses) (event.Commit pass number request) tells holds = absurd tells
  taken-in (change.Published name added revision edits addresses) (event.Publish endpoint at table) tells holds =
      held_by (event.Publish endpoint at table)
      (with_change (id_of name added) (row_with commits revision (map_of options history revision table)) (content_of options history).live)
      (live-published options history name added revision endpoint at table tells.0 tells.1
      ∙ ap (λ (k : ℕ). with_change (id_of name added) (row_with k revision (map_of options history revision table)) (content_of options history).live) (sym count))
      (holds (map_of options history revision table)
      (λ held there added. makes_map options history name revision edits (arc_value addresses) table tells.2 held there))
  taken-in (change.Published name added revision edits addresses) (event.Blocked endpoint at n) tells holds = absurd tells
  taken-in (change.Blocked name added revision) (event.Commit pass number request) tells holds = absurd tells
  taken-in (change.Blocked name added revision) (event.Publish endpoint at table) tells holds = absurd tells
  taken-in (change.Blocked name added revision) (event.Blocked endpoint at n) tells holds =
      held_by (event.Blocked endpoint at n) (with_change (id_of name added) (row_blocked revision commits) (content_of options history).live)
      (live-blocked options history name added revision endpoint at n tells.0 tells.1
      ∙ ap (λ (k : ℕ). with_change (id_of name added) (row_blocked revision k) (content_of options history).live) (sym count)) holds

-- ---- the number of commits

event_count : (options : Options) (history : List HistoryEvent) (is : FaceChange) (new : HistoryEvent) → Tells options history is new → revision_of (new ∷ []) ≡ commit_count is
event_count options history change.Nothing (event.Commit pass number request) tells = refl
event_count options history change.Nothing (event.Publish endpoint at table) tells = absurd tells
event_count options history change.Nothing (event.Blocked endpoint at n) tells = absurd tells
event_count options history (change.Added name) (event.Commit pass number request) tells = refl
event_count options history (change.Added name) (event.Publish endpoint at table) tells = absurd tells
event_count options history (change.Added name) (event.Blocked endpoint at n) tells = absurd tells
event_count options history (change.Removed name) (event.Commit pass number request) tells = refl
event_count options history (change.Removed name) (event.Publish endpoint at table) tells = absurd tells
event_count options history (change.Removed name) (event.Blocked endpoint at n) tells = absurd tells
event_count options history (change.Published name added revision edits addresses) (event.Commit pass number request) tells = absurd tells
event_count options history (change.Published name added revision edits addresses) (event.Publish endpoint at table) tells = refl
event_count options history (change.Published name added revision edits addresses) (event.Blocked endpoint at n) tells = absurd tells
event_count options history (change.Blocked name added revision) (event.Commit pass number request) tells = absurd tells
event_count options history (change.Blocked name added revision) (event.Publish endpoint at table) tells = absurd tells
event_count options history (change.Blocked name added revision) (event.Blocked endpoint at n) tells = refl

pub counted-after : (options : Options) (history : List HistoryEvent) (commits : ℕ) (is : FaceChange) (new : HistoryEvent) → commits ≡ revision_of history
    → Tells options history is new → commits + commit_count is ≡ revision_of (history ++ new ∷ [])
counted-after options history commits is new count tells =
    let one = event_count options history is new tells in
    let all = revision-append history (new ∷ []) in
    omega (arith, count, one, all)

-- ---- what a call is told

pub taken-in-by : {S : Type 0} (options : Options) (history : List HistoryEvent) (rows : IndexMap (List ℕ) FaceRow S) (count : ℕ) → count ≡ revision_of history
    → (is was : FaceChange) → was ≡ is → (new : HistoryEvent) → Tells options history was new → HoldsAfter rows count (content_of options history).live is
    → Holds rows (content_of options (history ++ new ∷ [])).live
taken-in-by options history rows count same is was one new tells holds =
    taken-in options history rows count same is new (subst (λ (c : FaceChange). Tells options history c new) one tells) holds

pub on_ok : {A E P Q : Type 0} (r : Result A E) → (P → Q) → OnOk r P → OnOk r Q
on_ok (Ok a) f told = f told
on_ok (Err e) f told = tt

one_alone : {X : Type 0} (xs : List X) → length xs ≡ 1 → (x : X) × (xs ≡ x ∷ [])
one_alone [] is = absurd (omega (arith, is))
one_alone (x ∷ []) is = (x, refl)
one_alone (x ∷ y ∷ xs) is = absurd (omega (arith, is))

-- a history with one event more than a beginning of it
pub one_more : (old new : List HistoryEvent) → IsPrefix old new → length new ≡ length old + 1 → (e : HistoryEvent) × (new ≡ old ++ e ∷ [])
one_more old new begins long =
    let all = ap length begins.1 in
    let sum = length-append old begins.0 in
    let last = one_alone begins.0 (omega (arith, all, sum, long)) in
    (last.0, sym begins.1 ∙ ap (λ (t : List HistoryEvent). old ++ t) last.1)

-- ---- the last report of a live endpoint

abbrev pub report_in : Option FaceRow → Option LastReport
report_in None = None
report_in (Some row) = row.report

reported : (options : Options) (history : List HistoryEvent) (name : List ℕ) (added : ℕ) → Lives (state_now options history) (id_of name added)
    → (row : Option FaceRow) (held : Option BoardRow) → HoldsRow row held → ShowsRow options history name held → report_in row ≡ last_report (id_of name added) history
reported options history name added lives None None holds shows =
    absurd (let found = (live-parts (id_of name added) (state_now options history) lives.row lives.found).0 in
    let none : None ≡ Some lives.row = sym shows ∙ found in no_element lives.row none)
reported options history name added lives None (Some held) holds shows = absurd holds
reported options history name added lives (Some row) None holds shows = absurd holds
reported options history name added lives (Some row) (Some held) holds shows =
    let found = (live-parts (id_of name added) (state_now options history) lives.row lives.found).0 in
    let one : shows.endpoint ≡ lives.row = same_row shows.endpoint lives.row (sym shows.found ∙ found) in
    holds.report
    ∙ shows.report
    ∙ ap (λ (e : Endpoint). last_report (endpoint_id e) history) one
    ∙ ap (λ (e : EndpointId). last_report e history) (live-id options history (id_of name added) lives.row lives.found)
  where
    same_row : (a b : Endpoint) → Some a ≡ Some b → a ≡ b
    same_row a b same = cc

pub reported-at : {S : Type 0} (options : Options) (history : List HistoryEvent) (name : List ℕ) (added : ℕ) → IsLegal options history
    → Lives (state_now options history) (id_of name added) → (rows : IndexMap (List ℕ) FaceRow S) (row : Option FaceRow) → get text.ghosts.eq rows name ≡ row
    → Holds rows (content_of options history).live → report_in row ≡ last_report (id_of name added) history
reported-at options history name added legal lives rows row is holds =
    reported options history name added lives row ((content_of options history).live name)
    (subst (λ (o : Option FaceRow). HoldsRow o ((content_of options history).live name)) is (holds.each name)) (content-rows options history legal name)
