-- What a placed `synced` line tells is right: its rows are exact, and none is missing.
use Rattle.std.proofs.Common.{◌≡◌, ℕ, ◌<◌, ◌≤◌, inl, inr, List, take, slice_get, Some, ap, sym, ◌∙◌, subst, arith}
use Rattle.std.specs.List.{Contains}
use Rattle.pol_model.specs.PolicyMap.{map_size}
use Rattle.pol_model.specs.declared.answer.FullSlot.{FullSlot}
use Rattle.pol_model.specs.declared.options.Options.{Options}
use Rattle.pol_model.specs.declared.row.Endpoint.{Endpoint}
use Rattle.pol_run.specs.Spots.{Line, Reading}
use Rattle.pol_run.specs.ByIndex.{IsReached}
use Rattle.pol_run.specs.InShort.{AreExact, IsAddedAt, IsExact, IsOverAfter, LivesAfter}
use Rattle.pol_run.proofs.Lists.{every_weaker}
use Rattle.pol_run.proofs.ShortRows.{is_over}
use Rattle.pol_history.specs.declared.event.EndpointId.{EndpointId}
use Rattle.pol_history.specs.declared.event.HistoryEvent.{HistoryEvent}
use Rattle.pol_history.specs.Calls.{HasPublish, IsRow, IsRowOf, IsSynced}
use Rattle.pol_history.specs.Commits.{commits_in, revision_of, state_after, state_now}
use Rattle.pol_history.specs.Legal.{IsLegal}
use Rattle.pol_history.proofs.LegalEvents.{legal_take, report_of_take}
use Rattle.pol_history.proofs.Same.{live-whole}
use Rattle.pol_run_laws.proofs.Between.{reported_within}
use Rattle.pol_history.proofs.Grown.{published_report}
use Rattle.pol_run_laws.proofs.Live.{IsReported, blocked_count, fits_within, live_there, live_of_first, one_row, published_fits, reported}
use Rattle.pol_run_laws.proofs.Places.{at_first, element_at}

module _ (options : Options) (history : List HistoryEvent) (legal : IsLegal options history) (old : List HistoryEvent) (n synced : ℕ) where
  -- the endpoint of a row was live at the row's revision
  row_reported : (endpoint : EndpointId) (row : FullSlot) → IsRowOf old (take n history) synced endpoint row
      → IsReported options history endpoint row.revision
  row_reported endpoint row is =
      let report = is.counts.last.report in
      let place = at_first n is.place history report.event report.there in
      reported options history legal is.place endpoint row.revision (report_of_take history n is.place endpoint row.revision place.0 report)

  row_lives : (endpoint : EndpointId) (row : FullSlot) (is : IsRowOf old (take n history) synced endpoint row)
      → LivesAfter options (commits_in history) row.revision row.name (row_reported endpoint row is).row
  row_lives endpoint row is =
      let at = row_reported endpoint row is in
      subst (λ (name : List ℕ). LivesAfter options (commits_in history) row.revision name at.row) is.name at.lives

  exact : (row : FullSlot) → IsRow old (take n history) synced row → IsExact options (commits_in history) synced row
  exact row is =
      let at = row_reported is.endpoint row is.is in
      let place = at_first n is.is.place history _ is.is.there in record {
        newer = is.is.counts.newer;
        endpoint = at.row;
        lives = row_lives is.endpoint row is.is;
        count = blocked_count options history legal is.is.place is.endpoint row.revision row.count place.1 at;
        over = is_over options row.count (legal.too_many is.is.place is.endpoint row.revision row.count place.1);
      }

  -- a row is of the endpoint of its name that was added then
  row_of : (row : FullSlot) (added : ℕ) (is : IsRow old (take n history) synced row)
      → IsAddedAt options (commits_in history) row.revision row.name added
      → IsRowOf old (take n history) synced (record { name = row.name; added = added }) row
  row_of row added is at =
      let own = row_reported is.endpoint row is.is in
      let same : own.row ≡ at.endpoint =
      one_row options history row.revision row.name own.row at.endpoint (row_lives is.endpoint row is.is) at.lives in
      let when : is.endpoint.added ≡ added = sym own.same ∙ ap (λ (e : Endpoint). e.added) same ∙ at.same in
      let name : is.endpoint.name ≡ row.name = is.is.name in
      let endpoint : is.endpoint ≡ record { name = row.name; added = added } = (λ i. record { name = name i; added = when i }) in
      subst (λ (e : EndpointId). IsRowOf old (take n history) synced e row) endpoint is.is

  module _ (lines : List Line) (full : List FullSlot) (is : IsSynced options old (take n history) synced full) where
    apart : (a b : ℕ) (first second : FullSlot) (added : ℕ) → a < b → slice_get full a ≡ Some first → slice_get full b ≡ Some second
        → first.name ≡ second.name → IsAddedAt options (commits_in history) first.revision first.name added
        → IsAddedAt options (commits_in history) second.revision second.name added → ⊥
    apart a b first second added less is_first is_second same one other =
        is.distinct a b first second (record { name = second.name; added = added }) less is_first is_second
        (subst (λ (name : List ℕ). IsRowOf old (take n history) synced (record { name = name; added = added }) first) same
        (row_of first added (element_at (IsRow old (take n history) synced) full a first is.rows is_first) one))
        (row_of second added (element_at (IsRow old (take n history) synced) full b second is.rows is_second) other)

    -- an endpoint whose map is over the limit has no published map that counts
    not_published : (name : List ℕ) (added : ℕ)
        → ((k : ℕ) → synced ≤ k → k ≤ revision_of (take n history) → IsOverAfter options (commits_in history) name added k)
        → HasPublish old (take n history) synced (record { name = name; added = added }) → ⊥
    not_published name added large has =
        let id : EndpointId = record { name = name; added = added } in
        let first = legal_take options n history legal in
        let report = published_report options (take n history) first id has.place has.revision has.table has.there in
        let over = large has.revision has.counts.newer (reported_within options (take n history) first has.place id has.revision report) in
        let place = at_first n has.place history _ has.there in
        let at = reported options history legal has.place id has.revision (published_report options history legal id has.place has.revision has.table place.1) in
        let same : at.row ≡ over.endpoint = one_row options history has.revision name at.row over.endpoint at.lives over.lives in
        let fits = published_fits options history legal has.place id has.revision has.table place.1 at in
        let few = fits_within options (map_size options (state_after options history has.revision) at.row) over.over.limit over.over.is_limit fits in
        let counts : map_size options (state_after options history has.revision) at.row ≡ map_size options (state_after options history has.revision) over.endpoint =
        ap (λ (e : Endpoint). map_size options (state_after options history has.revision) e) same in
        let many = over.over.over in
        omega (arith, few, counts, many)

    none_missing : (name : List ℕ) (added : ℕ)
        → ((k : ℕ) → synced ≤ k → k ≤ revision_of (take n history) → IsOverAfter options (commits_in history) name added k)
        → (row : FullSlot) × Contains full row × (row.name ≡ name) × IsAddedAt options (commits_in history) row.revision name added
    none_missing name added large =
        let new = take n history in
        let id : EndpointId = record { name = name; added = added } in
        let then = large synced (omega arith) is.between.upto in
        let now = large (revision_of new) is.between.upto (omega arith) in
        elim (is.complete id
        (record {
          row = then.endpoint;
          found = live-whole id (state_after options new synced) then.endpoint
              (live_of_first options history name then.endpoint n synced is.between.upto then.lives) then.same;
        })
        (record {
          row = now.endpoint;
          found = live-whole id (state_now options new) now.endpoint (live_there options history name now.endpoint n now.lives) now.same;
        })) [
          | inr has ↦ absurd (not_published name added large has)
          | inl has ↦
              let at = row_reported id has.row has.is in
              (has.row, has.listed, sym has.is.name, record { endpoint = at.row; lives = at.lives; same = at.same })
        ]

    -- the rows are exact, where the line may reach the revisions up to that of its second beginning
    pub are_exact : (i : ℕ) (reading : Reading) → ((k : ℕ) → k ≤ revision_of (take n history) → IsReached lines (commits_in history) i reading k)
        → AreExact options lines (commits_in history) i reading synced full
    are_exact i reading reached = record {
      each = every_weaker (IsRow old (take n history) synced) (IsExact options (commits_in history) synced) exact full is.rows;
      sorted = is.sorted;
      distinct = apart;
      none_missing = λ name added large. none_missing name added (λ k from upto. large k from (reached k upto));
    }
