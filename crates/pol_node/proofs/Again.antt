-- What a sync told at the revision of a history it tells again, to whoever had seen any beginning of that history.
use Rattle.std.proofs.Common.{◌≡◌, ℕ, ◌<◌, ◌⊎◌, inl, inr, List, [], ◌∷◌, length, arith}
use Rattle.std.specs.List.{AllByRecursion}
use mathlib.Core.List.{IsPrefix}
use Rattle.pol_model.specs.declared.answer.FullSlot.{FullSlot}
use Rattle.pol_model.specs.declared.options.Options.{Options}
use Rattle.pol_history.specs.declared.event.EndpointId.{EndpointId}
use Rattle.pol_history.specs.declared.event.HistoryEvent.{HistoryEvent}
use Rattle.pol_history.specs.Calls.{Counts, HasPublish, HasRow, IsRow, IsRowOf, IsSynced}
use Rattle.pol_history.specs.Commits.{revision_of}
use Rattle.pol_history.specs.Legal.{IsLegal}
use Rattle.pol_history.proofs.Beginnings.{prefix_length, prefix_self}
use Rattle.pol_history.proofs.Cuts.{revision-take}
use Rattle.pol_history.proofs.Grown.{reports_grow}
use Rattle.pol_history.proofs.Own.{revision-prefix}

-- No report comes after one of the last revision, so that one is the last of all.
module _ (options : Options) (one other new : List HistoryEvent) (legal : IsLegal options new) (begins : IsPrefix other new) (synced : ℕ)
    (all : synced ≡ revision_of new) where
  counts_again : (place : ℕ) (endpoint : EndpointId) (revision : ℕ) → Counts one new synced place endpoint revision
      → Counts other new synced place endpoint revision
  counts_again place endpoint revision counts = record {
    newer = counts.newer;
    prefix = length new;
    begins = prefix_length other new begins;
    within = omega arith;
    last = record {
      report = counts.last.report;
      among = omega (arith, counts.last.among, counts.within);
      none_after = λ later newer after among report.
          let grows : revision < newer = reports_grow options new legal endpoint place later revision newer after counts.last.report report in
          let committed = legal.committed later endpoint newer report in
          let within = revision-take later new in
          absurd (omega (arith, all, counts.newer, grows, committed, within));
    };
  }

  row_of_again : (endpoint : EndpointId) (row : FullSlot) → IsRowOf one new synced endpoint row → IsRowOf other new synced endpoint row
  row_of_again endpoint row is =
      record { name = is.name; place = is.place; there = is.there; counts = counts_again is.place endpoint row.revision is.counts }

  rows_again : (full : List FullSlot) → AllByRecursion (IsRow one new synced) full → AllByRecursion (IsRow other new synced) full
  rows_again [] rows = tt
  rows_again (row ∷ full) rows = (record { endpoint = rows.0.endpoint; is = row_of_again rows.0.endpoint row rows.0.is }, rows_again full rows.1)

  has_row_again : (full : List FullSlot) (endpoint : EndpointId) → HasRow one new synced full endpoint → HasRow other new synced full endpoint
  has_row_again full endpoint has = record { row = has.row; listed = has.listed; is = row_of_again endpoint has.row has.is }

  has_publish_again : (endpoint : EndpointId) → HasPublish one new synced endpoint → HasPublish other new synced endpoint
  has_publish_again endpoint has = record {
    revision = has.revision;
    table = has.table;
    place = has.place;
    there = has.there;
    counts = counts_again has.place endpoint has.revision has.counts;
  }

pub synced_again : (options : Options) (one other new : List HistoryEvent) → IsLegal options new → IsPrefix one new → IsPrefix other new → (synced : ℕ)
    → synced ≡ revision_of new → (full : List FullSlot) → IsSynced options one new synced full → IsSynced options other new synced full
synced_again options one other new legal begins also synced all full is = record {
  between = record { from = (let fewer = revision-prefix other new also in omega (arith, fewer, all)); upto = is.between.upto };
  rows = rows_again options one other new legal also synced all full is.rows;
  distinct = λ a b first second endpoint below here there its other_is.
      is.distinct a b first second endpoint below here there (row_of_again options other one new legal begins synced all endpoint first its)
      (row_of_again options other one new legal begins synced all endpoint second other_is);
  sorted = is.sorted;
  complete = λ endpoint was lives.
      elim (is.complete endpoint was lives) as (λ _. HasRow other new synced full endpoint ⊎ HasPublish other new synced endpoint) [
        | inl row ↦ inl (has_row_again options one other new legal also synced all full endpoint row)
        | inr publish ↦ inr (has_publish_again options one other new legal also synced all endpoint publish)
      ];
}

-- what was told in no more than the history that a pass has seen is told from any beginning of it on
pub synced_now : (options : Options) (old new : List HistoryEvent) → IsLegal options new → IsPrefix old new → (synced : ℕ) (full : List FullSlot)
    → IsSynced options new new synced full → IsSynced options old new synced full
synced_now options old new legal begins synced full is =
    let between = is.between in
    let all : synced ≡ revision_of new = omega (arith, between.from, between.upto) in
    synced_again options new old new legal (prefix_self new) begins synced all full is
