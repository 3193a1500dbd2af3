-- The endpoint's last published map, as the fold finds it, is the last one by the index of events.
use Rattle.std.proofs.Common.{◌≡◌, ◌≢◌, ℕ, ◌<◌, inl, inr, Bool, true, false, cond, List, [], ◌∷◌, ◌++◌, length, slice_get, Option, None, Some, refl, ap, sym, ◌∙◌, subst, arith, length-append}
use Rattle.std.proofs.lemmas.Option.{slice_get_within}
use Rattle.pol_mapkey.specs.Entries.{Entry as MapEntry}
use Rattle.pol_history.specs.declared.event.EndpointId.{EndpointId}
use Rattle.pol_history.specs.declared.event.HistoryEvent.{HistoryEvent}
use Rattle.pol_history.specs.declared.event.HistoryEvent.TheVariants as event
use Rattle.pol_history.specs.declared.event.LastReport.{LastReport}
use Rattle.pol_history.specs.Commits.{revision_of, same_endpoint}
use Rattle.pol_history.specs.Reports.{last_published, last_report, published_before, report_after}
use Rattle.pol_history.proofs.LastReports.{last_report-more}
use Rattle.pol_history.proofs.Lists.{by_growth, get_cases, get_front, get_seam, no_element}
use Rattle.pol_history.proofs.Same.{same_cases}

-- event i publishes a map of the endpoint at the revision
abbrev pub PublishesAt : List HistoryEvent → EndpointId → ℕ → ℕ → List MapEntry → Type 0
PublishesAt history endpoint i revision table = slice_get history i ≡ Some (event.Publish endpoint revision table)

-- the map of this revision is the last one
pub record IsLastPublished (history : List HistoryEvent) (endpoint : EndpointId) (revision : ℕ) : Type 0 where
  pub place : ℕ
  pub table : List MapEntry
  pub there : PublishesAt history endpoint place revision table
  pub none_after : (later other : ℕ) (entries : List MapEntry) → place < later → PublishesAt history endpoint later other entries → ⊥

abbrev pub TellsPublished : List HistoryEvent → EndpointId → Option ℕ → Type 0
TellsPublished history endpoint None = (i revision : ℕ) (table : List MapEntry) → PublishesAt history endpoint i revision table → ⊥
TellsPublished history endpoint (Some revision) = IsLastPublished history endpoint revision

-- the endpoint whose map an event publishes
abbrev publisher : HistoryEvent → Option EndpointId
publisher (event.Commit pass number request) = None
publisher (event.Publish endpoint revision table) = Some endpoint
publisher (event.Blocked endpoint revision count) = None

-- an event that publishes none of the endpoint's maps
passed : (history : List HistoryEvent) (new : HistoryEvent) (endpoint : EndpointId) (published : Option ℕ) → publisher new ≢ Some endpoint
    → TellsPublished history endpoint published → TellsPublished (history ++ new ∷ []) endpoint published
passed history new endpoint None other tells = λ i revision table there.
    elim (get_cases history new (event.Publish endpoint revision table) i there) [
      | inl old ↦ tells i revision table old.1
      | inr last ↦ other (ap publisher last.1)
    ]
passed history new endpoint (Some newest) other tells = record {
  place = tells.place;
  table = tells.table;
  there = get_front history (new ∷ []) tells.place (slice_get_within history tells.place _ tells.there) ∙ tells.there;
  none_after = λ later revision entries after there.
      elim (get_cases history new (event.Publish endpoint revision entries) later there) [
        | inl old ↦ tells.none_after later revision entries after old.1
        | inr last ↦ other (ap publisher last.1)
      ];
}

-- one that publishes one
made : (history : List HistoryEvent) (endpoint : EndpointId) (revision : ℕ) (table : List MapEntry)
    → IsLastPublished (history ++ event.Publish endpoint revision table ∷ []) endpoint revision
made history endpoint revision table = record {
  place = length history;
  table = table;
  there = get_seam history (event.Publish endpoint revision table) [];
  none_after = λ later other entries after there.
      absurd (omega (
        arith,
        after,
        slice_get_within (history ++ event.Publish endpoint revision table ∷ []) later _ there,
        length-append history (event.Publish endpoint revision table ∷ []),
      ));
}

some_differs : (a b : EndpointId) → a ≢ b → Some a ≢ Some b
some_differs a b apart same = apart (cc)

no_publisher : (endpoint : EndpointId) → None ≢ Some endpoint
no_publisher endpoint same = no_element endpoint same

cond_same : {X : Type 0} (b : Bool) (x : X) → cond b x x ≡ x
cond_same true x = refl
cond_same false x = refl

module _ (history : List HistoryEvent) (endpoint : EndpointId) (last : Option LastReport) (tells : TellsPublished history endpoint (published_before last)) where
  after_blocked : (b : Bool) (report : LastReport) → report.published ≡ published_before last
      → published_before (cond b (Some report) last) ≡ published_before last
  after_blocked true report same = same
  after_blocked false report same = refl

  more : (new : HistoryEvent) → TellsPublished (history ++ new ∷ []) endpoint (published_before (report_after endpoint (revision_of history) last new))
  more (event.Commit pass number request) =
      passed history (event.Commit pass number request) endpoint (published_before last) (no_publisher endpoint) tells
  more (event.Blocked other revision count) =
      subst (λ (o : Option ℕ). TellsPublished (history ++ event.Blocked other revision count ∷ []) endpoint o)
      (sym (after_blocked (same_endpoint other endpoint)
      (record { revision = revision; commits = revision_of history; published = published_before last }) refl))
      (passed history (event.Blocked other revision count) endpoint (published_before last) (no_publisher endpoint) tells)
  more (event.Publish other revision table) =
      let new = event.Publish other revision table in
      let report : LastReport = record { revision = revision; commits = revision_of history; published = Some revision } in
      let chosen = λ (b : Bool). TellsPublished (history ++ new ∷ []) endpoint (published_before (cond b (Some report) last)) in
      elim (same_cases other endpoint) [
        | inl h ↦
            subst chosen (sym h.0)
            (subst (λ (e : EndpointId). IsLastPublished (history ++ event.Publish e revision table ∷ []) endpoint revision) (sym h.1)
            (made history endpoint revision table))
        | inr h ↦ subst chosen (sym h.0) (passed history new endpoint (published_before last) (some_differs other endpoint h.1) tells)
      ]

pub told_published : (history : List HistoryEvent) (endpoint : EndpointId) → TellsPublished history endpoint (last_published endpoint history)
told_published history endpoint =
    by_growth (λ (h : List HistoryEvent). TellsPublished h endpoint (last_published endpoint h))
    (λ i revision table there. no_element (event.Publish endpoint revision table) there)
    (λ h new tells.
    subst (λ (o : Option LastReport). TellsPublished (h ++ new ∷ []) endpoint (published_before o)) (sym (last_report-more endpoint h new))
    (more h endpoint (last_report endpoint h) tells new))
    history
