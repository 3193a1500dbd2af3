-- Looks in longer histories are no older, and the bounds of an endpoint's last report.
use Rattle.std.proofs.Common.{◌≡◌, ℕ, ◌≤◌, inl, inr, List, ◌++◌, length, take, drop, IfSome, Option, None, Some, refl, sym, ap, ◌∙◌, subst, arith, append_assoc}
use Rattle.std.specs.List.{slice_get}
use Rattle.std.proofs.lemmas.Bool.{cases_order}
use Rattle.std.proofs.lemmas.List.{take-append-drop, take-append-le, take-take}
use Rattle.std.proofs.lemmas.Option.{slice_get_within}
use Rattle.std.proofs.Math.Seq.{take-length}
use mathlib.Core.List.{IsPrefix}
use Rattle.pol_mapkey.specs.declared.Word.{Word}
use Rattle.pol_model.specs.Endpoints.{endpoint_of}
use Rattle.pol_model.specs.Remote.{verdict_for}
use Rattle.pol_model.specs.declared.options.Options.{Options}
use Rattle.pol_model.specs.declared.request.Query.{Query}
use Rattle.pol_model.specs.declared.request.Request.{Request}
use Rattle.pol_model.specs.declared.row.Endpoint.{Endpoint}
use Rattle.pol_history.specs.declared.event.EndpointId.{EndpointId}
use Rattle.pol_history.specs.declared.event.HistoryEvent.{HistoryEvent}
use Rattle.pol_history.specs.declared.event.HistoryEvent.TheVariants as event
use Rattle.pol_history.specs.declared.event.LastReport.{LastReport}
use Rattle.pol_history.specs.Commits.{Lives, revision_of, state_after, state_now}
use Rattle.pol_history.specs.Grows.{Grows, PassView}
use Rattle.pol_history.specs.Legal.{IsLegal}
use Rattle.pol_history.specs.Look.{FindsSince, Found, look, look_live, look_published}
use Rattle.pol_history.specs.Reports.{IsLastPublish, last_published, last_report}
use Rattle.pol_history.proofs.Cuts.{revision-take}
use Rattle.pol_history.proofs.Grown.{newest}
use Rattle.pol_history.proofs.LastReports.{Tells, told}
use Rattle.pol_history.proofs.Lists.{get_front, no_element}
use Rattle.pol_history.proofs.Published.{IsLastPublished, TellsPublished, told_published}
use Rattle.pol_history.proofs.Same.{live-parts}

-- ---- the last report

report_bounds : (options : Options) (history : List HistoryEvent) (endpoint : EndpointId) (last : Option LastReport) → IsLegal options history
    → Tells history endpoint last
    → IfSome last (λ l. (endpoint.added ≤ l.revision) × (l.revision ≤ l.commits) × (l.commits ≤ revision_of history))
report_bounds options history endpoint None legal tells = tt
report_bounds options history endpoint (Some last) legal tells = (
  legal.since_added tells.place endpoint last.revision tells.report.report,
  omega (arith, legal.committed tells.place endpoint last.revision tells.report.report, tells.commits),
  omega (arith, tells.commits, revision-take tells.place history),
)

pub report-bounds : (options : Options) (history : List HistoryEvent) (endpoint : EndpointId) → IsLegal options history
    → IfSome (last_report endpoint history) (λ l. (endpoint.added ≤ l.revision) × (l.revision ≤ l.commits) × (l.commits ≤ revision_of history))
report-bounds options history endpoint legal = report_bounds options history endpoint (last_report endpoint history) legal (told history endpoint)

-- ---- the last published map, by index

from_fold : (history : List HistoryEvent) (endpoint : EndpointId) (revision : ℕ) → IsLastPublished history endpoint revision → IsLastPublish history endpoint revision
from_fold history endpoint revision last = record {
  place = last.place;
  publish = record { table = last.table; there = last.there };
  none_after = λ later other after publish. last.none_after later other publish.table after publish.there;
}

some_last : (history : List HistoryEvent) (endpoint : EndpointId) (revision : ℕ) (published : Option ℕ) → TellsPublished history endpoint published
    → published ≡ Some revision → IsLastPublished history endpoint revision
some_last history endpoint revision None tells is = absurd (no_element revision is)
some_last history endpoint revision (Some newest) tells is =
    let same : newest ≡ revision = (cc) in subst (λ (n : ℕ). IsLastPublished history endpoint n) same tells

last_found : (history : List HistoryEvent) (endpoint : EndpointId) (revision : ℕ) (published : Option ℕ) → TellsPublished history endpoint published
    → IsLastPublish history endpoint revision → published ≡ Some revision
last_found history endpoint revision None tells last = absurd (tells last.place revision last.publish.table last.publish.there)
last_found history endpoint revision (Some found) tells last =
    elim (cases_order tells.place last.place) [
      | inl same ↦
          let there = subst (λ (n : ℕ). slice_get history n ≡ Some (event.Publish endpoint found tells.table)) same tells.there in
          let both : Some (event.Publish endpoint found tells.table) ≡ Some (event.Publish endpoint revision last.publish.table) = sym there ∙ last.publish.there in
          let one : found ≡ revision = (cc) in
          ap Some one
      | inr (inl before) ↦ absurd (tells.none_after last.place revision last.publish.table before last.publish.there)
      | inr (inr after) ↦ absurd (last.none_after tells.place found after (record { table = tells.table; there = tells.there }))
    ]

pub last_publish : (history : List HistoryEvent) (endpoint : EndpointId) (revision : ℕ) → last_published endpoint history ≡ Some revision
    → IsLastPublish history endpoint revision
last_publish history endpoint revision is =
    from_fold history endpoint revision (some_last history endpoint revision (last_published endpoint history) (told_published history endpoint) is)

pub publish_last : (history : List HistoryEvent) (endpoint : EndpointId) (revision : ℕ) → IsLastPublish history endpoint revision
    → last_published endpoint history ≡ Some revision
publish_last history endpoint revision last = last_found history endpoint revision (last_published endpoint history) (told_published history endpoint) last

-- ---- looks

-- the last published map is of the revision or a later one
record IsPublishedSince (history : List HistoryEvent) (endpoint : EndpointId) (revision : ℕ) : Type 0 where
  newer : ℕ
  last : last_published endpoint history ≡ Some newer
  no_older : revision ≤ newer

module _ (options : Options) (history more : List HistoryEvent) (legal : IsLegal options (history ++ more)) where
  published_then : (endpoint : EndpointId) (revision : ℕ) (published : Option ℕ) → IsLastPublished history endpoint revision
      → TellsPublished (history ++ more) endpoint published → last_published endpoint (history ++ more) ≡ published
      → IsPublishedSince (history ++ more) endpoint revision
  published_then endpoint revision None last tells is =
      absurd (tells last.place revision last.table (get_front history more last.place (slice_get_within history last.place _ last.there) ∙ last.there))
  published_then endpoint revision (Some newer) last tells is = record {
    newer = newer;
    last = is;
    no_older = newest options (history ++ more) legal endpoint last.place revision newer last.table
        (get_front history more last.place (slice_get_within history last.place _ last.there) ∙ last.there) tells;
  }

  published_grows : (endpoint : EndpointId) (revision : ℕ) → last_published endpoint history ≡ Some revision → IsPublishedSince (history ++ more) endpoint revision
  published_grows endpoint revision is =
      published_then endpoint revision (last_published endpoint (history ++ more))
      (some_last history endpoint revision (last_published endpoint history) (told_published history endpoint) is)
      (told_published (history ++ more) endpoint) refl

  found_published : (query : Query) (row : Endpoint) (published : Option ℕ) (revision : ℕ) (word : Word)
      → look_published options history query row published ≡ Found revision word → published ≡ Some revision
  found_published query row None revision word is = absurd (cc)
  found_published query row (Some newest) revision word is = let same : newest ≡ revision = (cc) in ap Some same

  pub looks_grow : (query : Query) (row : Endpoint) (revision : ℕ) (word : Word) → endpoint_of query.endpoint (state_now options history).endpoints ≡ Some row
      → look options history query ≡ Found revision word → Lives (state_now options (history ++ more)) (record { name = query.endpoint; added = row.added })
      → FindsSince options (history ++ more) query revision
  looks_grow query row revision word found is lives =
      let endpoint : EndpointId = record { name = query.endpoint; added = row.added } in
      let looked : look_published options history query row (last_published endpoint history) ≡ Found revision word =
      sym (ap (look_live options history query) found) ∙ is in
      let since = published_grows endpoint revision (found_published query row (last_published endpoint history) revision word looked) in
      let both = live-parts endpoint (state_now options (history ++ more)) lives.row lives.found in
      let last : last_published (record { name = query.endpoint; added = lives.row.added }) (history ++ more) ≡ Some since.newer =
      ap (λ (n : ℕ). last_published (record { name = query.endpoint; added = n }) (history ++ more)) both.1 ∙ since.last in
      record {
        newer = since.newer;
        word = verdict_for options (state_after options (history ++ more) since.newer) query lives.row;
        found = ap (look_live options (history ++ more) query) both.0 ∙ ap (look_published options (history ++ more) query lives.row) last;
        no_older = since.no_older;
      }

-- ---- views of one history

cut_of : (first history : List HistoryEvent) → IsPrefix first history → take (length first) history ≡ first
cut_of first history begins =
    ap (take (length first)) (sym begins.1) ∙ take-append-le (length first) first begins.0 (omega arith) ∙ take-length first

pub views_join : (first second history : List HistoryEvent) → IsPrefix first history → IsPrefix second history → length first ≤ length second → IsPrefix first second
views_join first second history one two fewer =
    let cut : take (length first) second ≡ first =
    ap (take (length first)) (sym (cut_of second history two)) ∙ take-take (length first) (length second) history fewer ∙ cut_of first history one in
    (drop (length first) second, ap (λ (h : List HistoryEvent). h ++ drop (length first) second) (sym cut) ∙ take-append-drop (length first) second)

pub views_grow : (options : Options) (first second third : PassView) (own more : List Request) → Grows options first second own → Grows options second third more
    → Grows options first third (own ++ more)
views_grow options first second third own more one two = record {
  goes_on = (
    one.goes_on.0 ++ two.goes_on.0,
    sym (append_assoc first.history one.goes_on.0 two.goes_on.0) ∙ ap (λ (h : List HistoryEvent). h ++ two.goes_on.0) one.goes_on.1 ∙ two.goes_on.1,
  );
  legal = two.legal;
  mine = two.mine ∙ ap (λ (m : List Request). m ++ more) one.mine ∙ append_assoc first.mine own more;
}
