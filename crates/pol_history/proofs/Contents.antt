-- The content that a history makes: the revision, and the live endpoints with their last reports and published maps.
use Rattle.std.proofs.Common.{zero, suc, ◌≡◌, ℕ, ◌+◌, ◌≤◌, ◌<◌, ◌==◌, ◌&&◌, not, Bool, true, false, cond, List, [], ◌∷◌, ◌++◌, find, insert, count_by, nat_lt, bytes_eq, Option, None, Some, IfSome, option_map, refl, sym, ap, ◌∙◌, subst, arith, append-nil, append_assoc}
use Rattle.std.specs.Cmp.Lexicographic.{bytes_decides}
use Rattle.std.specs.List.{list_any}
use Rattle.std.proofs.lemmas.Bool.{and_parts, both_ways, eqb-true, false_from_ne_true, or_parts}
use Rattle.pol_addr.specs.declared.address.Addr.{Addr}
use Rattle.pol_labels.specs.declared.label.Label.{Label}
use Rattle.pol_mapkey.specs.Entries.{Entry as MapEntry}
use Rattle.pol_model.specs.After.{after, new_endpoint, state_of}
use Rattle.pol_model.specs.Endpoints.{endpoint_of}
use Rattle.pol_model.specs.Fault.{fault_of}
use Rattle.pol_model.specs.PolicyMap.{policy_map}
use Rattle.pol_model.specs.State.{State}
use Rattle.pol_model.specs.declared.options.Options.{Options}
use Rattle.pol_model.specs.declared.request.Request.{Request}
use Rattle.pol_model.specs.declared.request.Request.TheVariants.{AddEndpoint, RemoveEndpoint, AddIdentity, RemoveIdentity, Apply, Remove, SetMode}
use Rattle.pol_model.specs.declared.row.Endpoint.{Endpoint}
use Rattle.pol_model.proofs.Histories.{state_of-revision}
use Rattle.pol_model_laws.proofs.Membership.{find-In}
use Rattle.pol_model_laws.proofs.NoFault.{add_endpoint}
use Rattle.pol_model_laws.proofs.Lives.{found_kept, found_lost, named_alike}
use Rattle.pol_history.specs.declared.event.EndpointId.{EndpointId}
use Rattle.pol_history.specs.declared.event.HistoryEvent.{HistoryEvent}
use Rattle.pol_history.specs.declared.event.HistoryEvent.TheVariants as event
use Rattle.pol_history.specs.declared.event.LastReport.{LastReport}
use Rattle.pol_history.specs.Commits.{commits_in, live_endpoint, revision_of, same_endpoint, state_after, state_now}
use Rattle.pol_history.specs.Content.{BoardRow, Content, PublishedMap, added_row, content_after, content_from, content_of, if_of, live_after, no_content, numbers_in, row_blocked, row_published}
use Rattle.pol_history.specs.Held.{IsShownRow, ShowsMap, ShowsRow}
use Rattle.pol_history.specs.Legal.{IsLegal}
use Rattle.pol_history.specs.Machine.{endpoint_id}
use Rattle.pol_history.specs.MayFollow.{MayFollow, PublishMayFollow, BlockedMayFollow}
use Rattle.pol_history.specs.Reports.{last_published, last_report, published_before, report_after}
use Rattle.pol_history.proofs.Cuts.{commits-append, revision-append, state-cut}
use Rattle.pol_history.proofs.LastReports.{last_report-more}
use Rattle.pol_history.proofs.LegalEvents.{legal_front, legal_last}
use Rattle.pol_history.proofs.Lists.{by_growth}
use Rattle.pol_history.proofs.Lives.{lives-then}
use Rattle.pol_history.proofs.Looks.{report-bounds}
use Rattle.pol_history.proofs.Names.{state-more}
use Rattle.pol_history.proofs.Same.{is-same, live-whole}

from_more : (options : Options) (requests : List Request) (content : Content) (history : List HistoryEvent) (new : HistoryEvent)
    → content_from options requests content (history ++ new ∷ [])
    ≡ content_after options (requests ++ commits_in history) (content_from options requests content history) new
from_more options requests content [] new = ap (λ (rs : List Request). content_after options rs content new) (sym (append-nil requests))
from_more options requests content (first ∷ later) new =
    let next = content_after options requests content first in
    let requests' = requests ++ commits_in (first ∷ []) in
    from_more options requests' next later new
    ∙ ap (λ (rs : List Request). content_after options rs (content_from options requests' next later) new)
    (append_assoc requests (commits_in (first ∷ [])) (commits_in later) ∙ ap (λ (rs : List Request). requests ++ rs) (sym (commits-append (first ∷ []) later)))

pub content-more : (options : Options) (history : List HistoryEvent) (new : HistoryEvent)
    → content_of options (history ++ new ∷ []) ≡ content_after options (commits_in history) (content_of options history) new
content-more options history new = from_more options [] no_content history new

-- ---- the number of commits

counted : (options : Options) (requests : List Request) (content : Content) (commits : ℕ) (new : HistoryEvent) → content.commits ≡ commits
    → (content_after options requests content new).commits ≡ commits + revision_of (new ∷ [])
counted options requests content commits (event.Commit pass number request) is = ap (λ (n : ℕ). n + 1) is
counted options requests content commits (event.Publish endpoint revision table) is = omega arith
counted options requests content commits (event.Blocked endpoint revision count) is = omega arith

pub content-commits : (options : Options) (history : List HistoryEvent) → (content_of options history).commits ≡ revision_of history
content-commits options =
    by_growth (λ (h : List HistoryEvent). (content_of options h).commits ≡ revision_of h) refl
    (λ h new so_far.
    ap (λ (c : Content). c.commits) (content-more options h new)
    ∙ counted options (commits_in h) (content_of options h) (revision_of h) new so_far
    ∙ sym (revision-append h (new ∷ [])))

-- ---- look-ups in a list with one element more, and with fewer

-- a new element is the one that is found, where none was
placed_step : {X : Type 0} (p : X → Bool) (b : Bool) (y new : X) (left right : Option X) → cond b (Some y) left ≡ None → (left ≡ None → right ≡ Some new) → cond b (Some y) right ≡ Some new
placed_step p true y new left right none others = absurd (cc)
placed_step p false y new left right none others = others none

placed_found : {X : Type 0} (p : X → Bool) (xs : List X) (k : ℕ) (new : X) → p new ≡ true → find p xs ≡ None → find p (insert xs k new) ≡ Some new
placed_found p [] zero new passes none = rw passes refl
placed_found p [] (suc k) new passes none = rw passes refl
placed_found p (y ∷ ys) zero new passes none = rw passes refl
placed_found p (y ∷ ys) (suc k) new passes none =
    placed_step p (p y) y new (find p ys) (find p (insert ys k new)) none (placed_found p ys k new passes)

beside_step : {X : Type 0} (b : Bool) (y : X) (left right : Option X) → left ≡ right → cond b (Some y) left ≡ cond b (Some y) right
beside_step true y left right same = refl
beside_step false y left right same = same

-- one that doesn't pass changes nothing
placed_beside : {X : Type 0} (p : X → Bool) (xs : List X) (k : ℕ) (new : X) → p new ≡ false → find p (insert xs k new) ≡ find p xs
placed_beside p [] zero new fails = rw fails refl
placed_beside p [] (suc k) new fails = rw fails refl
placed_beside p (y ∷ ys) zero new fails = rw fails refl
placed_beside p (y ∷ ys) (suc k) new fails = beside_step (p y) y (find p (insert ys k new)) (find p ys) (placed_beside p ys k new fails)

none_found : {X : Type 0} (p : X → Bool) (xs : List X) → list_any p xs ≡ false → find p xs ≡ None
none_found p [] none = refl
none_found p (x ∷ xs) none =
    let parts = or_parts (p x) (list_any p xs) none in
    let others = none_found p xs parts.1 in
    rw (parts.0) others

same_both : (a b : List ℕ) (test : Bool) → bytes_eq a b ≡ test → bytes_eq b a ≡ test
same_both a b true is = (bytes_decides b a).1 (sym ((bytes_decides a b).0 is))
same_both a b false is = false_from_ne_true (bytes_eq b a) (λ same. both_ways (bytes_eq a b) is ((bytes_decides a b).1 (sym ((bytes_decides b a).0 same))))

-- ---- what stays

module _ (options : Options) (history : List HistoryEvent) (new : HistoryEvent) where
  map_kept : (endpoint : Endpoint) (map : Option PublishedMap)
      → last_published (endpoint_id endpoint) (history ++ new ∷ []) ≡ last_published (endpoint_id endpoint) history
      → ShowsMap options history endpoint map → ShowsMap options (history ++ new ∷ []) endpoint map
  map_kept endpoint None same shows = same ∙ shows
  map_kept endpoint (Some map) same shows =
      let cut = sym (state-cut options history (new ∷ []) map.revision shows.committed) in
      record {
        last = same ∙ shows.last;
        since_added = shows.since_added;
        committed = omega (arith, shows.committed, revision-append history (new ∷ []));
        canonical = shows.canonical ∙ ap (λ (s : State). policy_map options s endpoint) cut;
        numbers = λ address. shows.numbers address ∙ ap (λ (s : State). numbers_in s address) cut;
      }

  row_kept : (name : List ℕ) (row : Option BoardRow)
      → endpoint_of name (state_now options (history ++ new ∷ [])).endpoints ≡ endpoint_of name (state_now options history).endpoints
      → ((endpoint : Endpoint) → endpoint_of name (state_now options history).endpoints ≡ Some endpoint
      → last_report (endpoint_id endpoint) (history ++ new ∷ []) ≡ last_report (endpoint_id endpoint) history)
      → ShowsRow options history name row → ShowsRow options (history ++ new ∷ []) name row
  row_kept name None found report shows = found ∙ shows
  row_kept name (Some row) found report shows =
      let same = report shows.endpoint shows.found in
      record {
        endpoint = shows.endpoint;
        found = found ∙ shows.found;
        added = shows.added;
        report = shows.report ∙ sym same;
        map = map_kept shows.endpoint row.map (ap published_before same) shows.map;
      }

-- ---- commits

no_report : (options : Options) (history : List HistoryEvent) (endpoint : EndpointId) (last : Option LastReport) → revision_of history < endpoint.added
    → IfSome last (λ l. (endpoint.added ≤ l.revision) × (l.revision ≤ l.commits) × (l.commits ≤ revision_of history)) → None ≡ last
no_report options history endpoint None later bounds = refl
no_report options history endpoint (Some last) later bounds = absurd (omega (arith, later, bounds.0, bounds.1, bounds.2))

module _ (options : Options) (history : List HistoryEvent) (pass number : ℕ) (request : Request) (legal : IsLegal options history)
    (none : fault_of (state_now options history) request ≡ None) (name : List ℕ) where
  committed : endpoint_of name (after (state_now options history) request).endpoints ≡ endpoint_of name (state_now options history).endpoints
      → (row : Option BoardRow) → ShowsRow options history name row → ShowsRow options (history ++ event.Commit pass number request ∷ []) name row
  committed same row shows =
      row_kept options history (event.Commit pass number request) name row
      (ap (λ (s : State). endpoint_of name s.endpoints) (state-more options history pass number request) ∙ same)
      (λ endpoint found. last_report-more (endpoint_id endpoint) history (event.Commit pass number request)) shows

  come : (endpoint : Endpoint) → endpoint_of name (after (state_now options history) request).endpoints ≡ Some endpoint
      → endpoint.added ≡ revision_of history + 1
      → ShowsRow options (history ++ event.Commit pass number request ∷ []) name (Some (added_row (revision_of history + 1)))
  come endpoint found added =
      let id = endpoint_id endpoint in
      let report : None ≡ last_report id (history ++ event.Commit pass number request ∷ []) =
      no_report options history id (last_report id history) (omega (arith, added)) (report-bounds options history id legal)
      ∙ sym (last_report-more id history (event.Commit pass number request)) in
      record {
        endpoint = endpoint;
        found = ap (λ (s : State). endpoint_of name s.endpoints) (state-more options history pass number request) ∙ found;
        added = sym added;
        report = report;
        map = sym (ap published_before report);
      }

  gone : endpoint_of name (after (state_now options history) request).endpoints ≡ None
      → ShowsRow options (history ++ event.Commit pass number request ∷ []) name None
  gone found = ap (λ (s : State). endpoint_of name s.endpoints) (state-more options history pass number request) ∙ found

module _ (options : Options) (history : List HistoryEvent) (pass number : ℕ) (legal : IsLegal options history) (name : List ℕ) (row : Option BoardRow) where
  endpoint_added : (added : List ℕ) (labels : List Label) (address : Addr) (test : Bool)
      → fault_of (state_now options history) (AddEndpoint added labels address) ≡ None → bytes_eq added name ≡ test
      → ShowsRow options history name row
      → ShowsRow options (history ++ event.Commit pass number (AddEndpoint added labels address) ∷ []) name (cond test (Some (added_row (revision_of history + 1))) row)
  endpoint_added added labels address true none is shows =
      let s = state_now options history in
      let new = new_endpoint s added labels address in
      let same : added ≡ name = (bytes_decides added name).0 is in
      let free : find (λ (e : Endpoint). bytes_eq e.name name) s.endpoints ≡ None =
      subst (λ (n : List ℕ). find (λ (e : Endpoint). bytes_eq e.name n) s.endpoints ≡ None) same
      (none_found (λ (e : Endpoint). bytes_eq e.name added) s.endpoints (add_endpoint s added labels address none).name_free) in
      come options history pass number (AddEndpoint added labels address) legal none name new
      (placed_found (λ (e : Endpoint). bytes_eq e.name name) s.endpoints (count_by (λ e. nat_lt e.slot new.slot) s.endpoints) new is free)
      (ap (λ (n : ℕ). n + 1) (state_of-revision options (commits_in history)))
  endpoint_added added labels address false none is shows =
      let s = state_now options history in
      let new = new_endpoint s added labels address in
      committed options history pass number (AddEndpoint added labels address) legal none name
      (placed_beside (λ (e : Endpoint). bytes_eq e.name name) s.endpoints (count_by (λ e. nat_lt e.slot new.slot) s.endpoints) new is) row shows

  endpoint_removed : (removed : List ℕ) (test : Bool) → fault_of (state_now options history) (RemoveEndpoint removed) ≡ None → bytes_eq removed name ≡ test
      → ShowsRow options history name row
      → ShowsRow options (history ++ event.Commit pass number (RemoveEndpoint removed) ∷ []) name (cond test None row)
  endpoint_removed removed true none is shows =
      gone options history pass number (RemoveEndpoint removed) legal none name
      (found_lost (λ (e : Endpoint). bytes_eq e.name name) (λ (e : Endpoint). not (bytes_eq e.name removed)) (state_now options history).endpoints
      (λ e passes. named_alike name removed e passes ∙ ap not (same_both removed name true is)))
  endpoint_removed removed false none is shows =
      committed options history pass number (RemoveEndpoint removed) legal none name
      (found_kept (λ (e : Endpoint). bytes_eq e.name name) (λ (e : Endpoint). not (bytes_eq e.name removed)) (state_now options history).endpoints
      (λ e passes. named_alike name removed e passes ∙ ap not (same_both removed name false is))) row shows

commit_rows : (options : Options) (history : List HistoryEvent) (pass number : ℕ) (request : Request) (live : List ℕ → Option BoardRow) (name : List ℕ)
    → IsLegal options history → fault_of (state_now options history) request ≡ None → ShowsRow options history name (live name)
    → ShowsRow options (history ++ event.Commit pass number request ∷ []) name (live_after (revision_of history + 1) live request name)
commit_rows options history pass number (AddEndpoint added labels address) live name legal none shows =
    endpoint_added options history pass number legal name (live name) added labels address (bytes_eq added name) none refl shows
commit_rows options history pass number (RemoveEndpoint removed) live name legal none shows =
    endpoint_removed options history pass number legal name (live name) removed (bytes_eq removed name) none refl shows
commit_rows options history pass number (AddIdentity added labels) live name legal none shows =
    committed options history pass number (AddIdentity added labels) legal none name refl (live name) shows
commit_rows options history pass number (RemoveIdentity removed) live name legal none shows =
    committed options history pass number (RemoveIdentity removed) legal none name refl (live name) shows
commit_rows options history pass number (Apply policy) live name legal none shows =
    committed options history pass number (Apply policy) legal none name refl (live name) shows
commit_rows options history pass number (Remove key) live name legal none shows =
    committed options history pass number (Remove key) legal none name refl (live name) shows
commit_rows options history pass number (SetMode mode) live name legal none shows =
    committed options history pass number (SetMode mode) legal none name refl (live name) shows

-- ---- reports

-- an event that is a report of one endpoint: what it commits, and what the other endpoints' last reports are after it
record IsReportOf (new : HistoryEvent) (reported : EndpointId) : Type 0 where
  commits : commits_in (new ∷ []) ≡ []
  others : (endpoint : EndpointId) (commits : ℕ) (last : Option LastReport) → same_endpoint reported endpoint ≡ false → report_after endpoint commits last new ≡ last

publish-report : (endpoint : EndpointId) (revision : ℕ) (table : List MapEntry) → IsReportOf (event.Publish endpoint revision table) endpoint
publish-report reported revision table = record {
  commits = refl;
  others = λ endpoint commits last differ.
      ap (λ (b : Bool). cond b (Some (record { revision = revision; commits = commits; published = Some revision })) last) differ;
}

blocked-report : (endpoint : EndpointId) (revision count : ℕ) → IsReportOf (event.Blocked endpoint revision count) endpoint
blocked-report reported revision count = record {
  commits = refl;
  others = λ endpoint commits last differ.
      ap (λ (b : Bool). cond b (Some (record { revision = revision; commits = commits; published = published_before last })) last) differ;
}

-- two endpoints of one name that were added at different revisions, and two of different names
other_added : (a b : EndpointId) (name : Bool) → (b.added == a.added) ≡ false → (name && (a.added == b.added)) ≡ false
other_added a b true differ = false_from_ne_true (a.added == b.added) (λ same. both_ways (b.added == a.added) differ (ap (λ (n : ℕ). n == a.added) (sym (eqb-true a.added b.added same)) ∙ eqb-self a.added))
  where
    eqb-self : (n : ℕ) → (n == n) ≡ true
    eqb-self n = (and_parts (bytes_eq [] []) (n == n) (is-same (record { name = []; added = n }))).1
other_added a b false differ = refl

module _ (options : Options) (history : List HistoryEvent) (new : HistoryEvent) (reported : EndpointId) (is : IsReportOf new reported)
    (change : BoardRow → BoardRow) (name : List ℕ) where
  state_same : state_now options (history ++ new ∷ []) ≡ state_now options history
  state_same =
      ap (λ (requests : List Request). state_of options requests)
      (commits-append history (new ∷ []) ∙ ap (λ (requests : List Request). commits_in history ++ requests) is.commits ∙ append-nil (commits_in history))

  -- a row of another endpoint
  other_row : (row : Option BoardRow)
      → ((endpoint : Endpoint) → endpoint_of name (state_now options history).endpoints ≡ Some endpoint → same_endpoint reported (endpoint_id endpoint) ≡ false)
      → ShowsRow options history name row → ShowsRow options (history ++ new ∷ []) name row
  other_row row differ shows =
      row_kept options history new name row (ap (λ (s : State). endpoint_of name s.endpoints) state_same)
      (λ endpoint found.
      last_report-more (endpoint_id endpoint) history new
      ∙ is.others (endpoint_id endpoint) (revision_of history) (last_report (endpoint_id endpoint) history) (differ endpoint found)) shows

  named : (endpoint : Endpoint) → endpoint_of name (state_now options history).endpoints ≡ Some endpoint → endpoint.name ≡ name
  named endpoint found =
      (bytes_decides endpoint.name name).0 (find-In (λ (e : Endpoint). bytes_eq e.name name) endpoint (state_now options history).endpoints found).1

  -- what the change does to the endpoint's own row
  abbrev Changes : Type 0
  Changes = (row : BoardRow) → (shows : IsShownRow options history name row) → endpoint_id shows.endpoint ≡ reported
      → IsShownRow options (history ++ new ∷ []) name (change row)

  by_added : Changes → (row : BoardRow) (test : Bool) → bytes_eq reported.name name ≡ true → (row.added == reported.added) ≡ test → IsShownRow options history name row
      → ShowsRow options (history ++ new ∷ []) name (cond test (Some (change row)) (Some row))
  by_added changes row true here same shows =
      let name_is : shows.endpoint.name ≡ reported.name = named shows.endpoint shows.found ∙ sym ((bytes_decides reported.name name).0 here) in
      let added_is : shows.endpoint.added ≡ reported.added = sym shows.added ∙ eqb-true row.added reported.added same in
      changes row shows (λ i. record { name = name_is i; added = added_is i })
  by_added changes row false here differ shows =
      other_row (Some row)
      (λ endpoint found.
      let one : endpoint ≡ shows.endpoint = (let both : Some endpoint ≡ Some shows.endpoint = sym found ∙ shows.found in cc) in
      let added : row.added ≡ endpoint.added = shows.added ∙ ap (λ (e : Endpoint). e.added) (sym one) in
      other_added reported (endpoint_id endpoint) (bytes_eq reported.name endpoint.name) (subst (λ (n : ℕ). (n == reported.added) ≡ false) added differ)) shows

  by_name : Changes → (row : Option BoardRow) (test : Bool) → bytes_eq reported.name name ≡ test → ShowsRow options history name row
      → ShowsRow options (history ++ new ∷ []) name (cond test (if_of reported.added change row) row)
  by_name changes None true here shows = ap (λ (s : State). endpoint_of name s.endpoints) state_same ∙ shows
  by_name changes (Some row) true here shows = by_added changes row (row.added == reported.added) here refl shows
  by_name changes row false here shows =
      other_row row
      (λ endpoint found.
      ap (λ (b : Bool). b && (reported.added == endpoint.added))
      (ap (λ (n : List ℕ). bytes_eq reported.name n) (named endpoint found) ∙ here)) shows

module _ (options : Options) (history : List HistoryEvent) (endpoint : EndpointId) (legal : IsLegal options history) (name : List ℕ) (row : BoardRow)
    (shows : IsShownRow options history name row) (same : endpoint_id shows.endpoint ≡ endpoint) where
  -- its row is that of each revision since it was added
  row_then : (revision : ℕ) → revision ≤ revision_of history → endpoint.added ≤ revision
      → live_endpoint endpoint (state_after options history revision) ≡ Some shows.endpoint
  row_then revision within old =
      let now : live_endpoint (endpoint_id shows.endpoint) (state_now options history) ≡ Some shows.endpoint =
      live-whole (endpoint_id shows.endpoint) (state_now options history) shows.endpoint
      (ap (λ (n : List ℕ). endpoint_of n (state_now options history).endpoints)
      ((bytes_decides shows.endpoint.name name).0 (find-In (λ (e : Endpoint). bytes_eq e.name name) shows.endpoint (state_now options history).endpoints shows.found).1)
      ∙ shows.found) refl in
      lives-then options history endpoint shows.endpoint revision within old
      (subst (λ (e : EndpointId). live_endpoint e (state_now options history) ≡ Some shows.endpoint) same now)

  own_report : (new : HistoryEvent) (told : LastReport)
      → report_after endpoint (revision_of history) (last_report endpoint history) new ≡ Some told
      → Some told ≡ last_report (endpoint_id shows.endpoint) (history ++ new ∷ [])
  own_report new told is =
      sym (ap (λ (e : EndpointId). last_report e (history ++ new ∷ [])) same ∙ last_report-more endpoint history new ∙ is)

  published_row : (revision : ℕ) (table : List MapEntry) → PublishMayFollow options history endpoint revision table
      → IsShownRow options (history ++ event.Publish endpoint revision table ∷ []) name
      (row_published options (commits_in history) revision table (revision_of history) row)
  published_row revision table may =
      let new = event.Publish endpoint revision table in
      let told : LastReport = record { revision = revision; commits = revision_of history; published = Some revision } in
      let report : Some told ≡ last_report (endpoint_id shows.endpoint) (history ++ new ∷ []) =
      own_report new told (ap (λ (b : Bool). cond b (Some told) (last_report endpoint history)) (is-same endpoint)) in
      let then = row_then revision may.report.committed may.report.since_added in
      let canonical : Some (policy_map options (state_after options history revision) shows.endpoint) ≡ Some table =
      sym (ap (option_map (policy_map options (state_after options history revision))) then) ∙ may.canonical in
      let cut = state-cut options history (new ∷ []) revision may.report.committed in
      record {
        endpoint = shows.endpoint;
        found = ap (λ (s : State). endpoint_of name s.endpoints) (state_same options history new endpoint (publish-report endpoint revision table) (λ r. r) name) ∙ shows.found;
        added = shows.added;
        report = report;
        map = record {
          last = sym (ap published_before report);
          since_added = omega (arith, ap (λ (e : EndpointId). e.added) same, may.report.since_added);
          committed = omega (arith, may.report.committed, revision-append history (new ∷ []));
          canonical = some_inside table (policy_map options (state_after options history revision) shows.endpoint) canonical
              ∙ ap (λ (s : State). policy_map options s shows.endpoint) (sym cut);
          numbers = λ address. ap (λ (s : State). numbers_in s address) (sym cut);
        };
      }
    where
      some_inside : {X : Type 0} (a b : X) → Some b ≡ Some a → a ≡ b
      some_inside a b same = cc

  blocked_row : (revision count : ℕ) → BlockedMayFollow options history endpoint revision count
      → IsShownRow options (history ++ event.Blocked endpoint revision count ∷ []) name (row_blocked revision (revision_of history) row)
  blocked_row revision count may =
      let new = event.Blocked endpoint revision count in
      let told : LastReport = record { revision = revision; commits = revision_of history; published = published_before (last_report endpoint history) } in
      let report : Some told ≡ last_report (endpoint_id shows.endpoint) (history ++ new ∷ []) =
      own_report new told (ap (λ (b : Bool). cond b (Some told) (last_report endpoint history)) (is-same endpoint)) in
      let before : published_before row.report ≡ published_before (last_report endpoint history) =
      ap published_before (shows.report ∙ ap (λ (e : EndpointId). last_report e history) same) in
      record {
        endpoint = shows.endpoint;
        found = ap (λ (s : State). endpoint_of name s.endpoints) (state_same options history new endpoint (blocked-report endpoint revision count) (λ r. r) name) ∙ shows.found;
        added = shows.added;
        report = ap (λ (o : Option ℕ). Some (record { revision = revision; commits = revision_of history; published = o })) before ∙ report;
        map = map_kept options history new shows.endpoint row.map
            (sym (ap published_before report) ∙ ap (λ (e : EndpointId). last_published e history) (sym same)) shows.map;
      }

-- ---- all events

event_rows : (options : Options) (history : List HistoryEvent) (new : HistoryEvent) (content : Content) → IsLegal options history → MayFollow options history new
    → content.commits ≡ revision_of history → (name : List ℕ) → ShowsRow options history name (content.live name)
    → ShowsRow options (history ++ new ∷ []) name ((content_after options (commits_in history) content new).live name)
event_rows options history (event.Commit pass number request) content legal may commits name shows =
    subst (λ (n : ℕ). ShowsRow options (history ++ event.Commit pass number request ∷ []) name (live_after (n + 1) content.live request name)) (sym commits)
    (commit_rows options history pass number request content.live name legal may.no_fault shows)
event_rows options history (event.Publish endpoint revision table) content legal may commits name shows =
    let new = event.Publish endpoint revision table in
    subst
    (λ (n : ℕ). ShowsRow options (history ++ new ∷ []) name
    (cond (bytes_eq endpoint.name name) (if_of endpoint.added (row_published options (commits_in history) revision table n) (content.live name)) (content.live name)))
    (sym commits)
    (by_name options history new endpoint (publish-report endpoint revision table) (row_published options (commits_in history) revision table (revision_of history)) name
    (λ row shown same. published_row options history endpoint legal name row shown same revision table may)
    (content.live name) (bytes_eq endpoint.name name) refl shows)
event_rows options history (event.Blocked endpoint revision count) content legal may commits name shows =
    let new = event.Blocked endpoint revision count in
    subst
    (λ (n : ℕ). ShowsRow options (history ++ new ∷ []) name
    (cond (bytes_eq endpoint.name name) (if_of endpoint.added (row_blocked revision n) (content.live name)) (content.live name)))
    (sym commits)
    (by_name options history new endpoint (blocked-report endpoint revision count) (row_blocked revision (revision_of history)) name
    (λ row shown same. blocked_row options history endpoint legal name row shown same revision count may)
    (content.live name) (bytes_eq endpoint.name name) refl shows)

-- what is held under each name
pub content-rows : (options : Options) (history : List HistoryEvent) → IsLegal options history
    → (name : List ℕ) → ShowsRow options history name ((content_of options history).live name)
content-rows options =
    by_growth (λ (h : List HistoryEvent). IsLegal options h → (name : List ℕ) → ShowsRow options h name ((content_of options h).live name))
    (λ legal name. refl)
    (λ h new so_far legal name.
    let before = legal_front options h (new ∷ []) legal in
    subst (λ (c : Content). ShowsRow options (h ++ new ∷ []) name (c.live name)) (sym (content-more options h new))
    (event_rows options h new (content_of options h) before (legal_last options h new legal) (content-commits options h) name (so_far before name)))
