-- What a regeneration answers tells what a sync learns of the slot, and this stays so.
use Rattle.std.proofs.Common.{◌≡◌, ◌≢◌, ℕ, ◌≤◌, ◌⊎◌, inl, inr, Bool, true, false, List, length, Option, None, Some, refl, sym, ap, ◌∙◌, subst, arith}
use Rattle.std.specs.List.{slice_get}
use mathlib.Core.List.{IsPrefix}
use Rattle.pol_mapkey.specs.Entries.{Entry as MapEntry}
use Rattle.pol_model.specs.declared.answer.FullSlot.{FullSlot}
use Rattle.pol_model.specs.declared.options.Options.{Options}
use Rattle.std.proofs.lemmas.Bool.{cases_lt, false≢true}
use Rattle.std.proofs.lemmas.Option.{slice_get_within}
use Rattle.pol_history.specs.declared.event.EndpointId.{EndpointId}
use Rattle.pol_history.specs.declared.event.HistoryEvent.{HistoryEvent}
use Rattle.pol_history.specs.declared.event.HistoryEvent.TheVariants as event
use Rattle.pol_history.specs.declared.event.LastReport.{LastReport}
use Rattle.pol_history.specs.declared.turn.SlotTurn.{SlotTurn}
use Rattle.pol_history.specs.declared.turn.SlotTurn.TheVariants.{Full, Gone, Shown}
use Rattle.pol_history.specs.Calls.{Counts, HasPublish, IsRowOf}
use Rattle.pol_history.specs.Commits.{revision_of}
use Rattle.pol_history.specs.Legal.{IsLegal}
use Rattle.pol_history.specs.Regenerate.{IsAlready, IsFull, IsPublished}
use Rattle.pol_history.specs.Reports.{IsLastPublish, IsLastReport, IsReport, Reports, last_report, published_before, size_at}
use Rattle.pol_history.specs.SlotTurns.{HasRowOf, HasShown, TellsTurn}
use Rattle.pol_history.proofs.Grown.{reports_grow}
use Rattle.pol_history.proofs.LastReports.{IsLast, Tells, told}
use Rattle.pol_history.proofs.Later.{has_publish-kept, is_gone-kept, row_of-kept, taken-kept}
use Rattle.pol_history.proofs.Looks.{last_publish, publish_last}
use Rattle.pol_history.proofs.Reported.{blocked-counts, last_of_all-counts, publish-counts}

module _ (options : Options) (slot synced : ℕ) (old new : List HistoryEvent) (shown : synced ≤ revision_of old) where
  pub published-tells : (revision : ℕ) → IsPublished options slot old new revision → HasShown options slot old new synced
  published-tells revision is = record {
    endpoint = is.endpoint;
    revision = revision;
    taken = is.taken;
    publish =
        let newer : synced ≤ revision = omega (arith, shown, is.taken.between.from) in
        publish-counts old new synced is.endpoint revision newer is.place is.table is.there is.past;
  }

  pub full-tells : (row : FullSlot) (is : IsFull options slot old new row.revision row.count) → is.endpoint.name ≡ row.name → HasRowOf options slot old new synced row
  full-tells row is name = record {
    endpoint = is.endpoint;
    revision = row.revision;
    taken = is.taken;
    is = record {
      name = name;
      place = is.place;
      there = is.there;
      counts =
          let newer : synced ≤ row.revision = omega (arith, shown, is.taken.between.from) in
          blocked-counts old new synced is.endpoint row.revision newer is.place row.count is.there is.past;
    };
  }

pub turn-kept : (options : Options) (slot synced : ℕ) (shorter old new longer : List HistoryEvent) (turn : SlotTurn) → IsPrefix shorter old → IsPrefix new longer
    → TellsTurn options slot old new synced turn → TellsTurn options slot shorter longer synced turn
turn-kept options slot synced shorter old new longer Shown less more tells = record {
  endpoint = tells.endpoint;
  revision = tells.revision;
  taken = taken-kept options shorter old new longer less more slot tells.endpoint tells.revision tells.taken;
  publish = has_publish-kept shorter old new longer less more synced tells.endpoint tells.publish;
}
turn-kept options slot synced shorter old new longer (Full row) less more tells = record {
  endpoint = tells.endpoint;
  revision = tells.revision;
  taken = taken-kept options shorter old new longer less more slot tells.endpoint tells.revision tells.taken;
  is = row_of-kept shorter old new longer less more synced tells.endpoint row tells.is;
}
turn-kept options slot synced shorter old new longer Gone less more tells = is_gone-kept options shorter old new longer less more slot tells

-- ---- where nothing was done

-- the last report, by what it is
record WasPublished (history : List HistoryEvent) (place : ℕ) (endpoint : EndpointId) (revision : ℕ) : Type 0 where
  pub table : List MapEntry
  pub there : slice_get history place ≡ Some (event.Publish endpoint revision table)

record WasBlocked (history : List HistoryEvent) (place : ℕ) (endpoint : EndpointId) (revision : ℕ) : Type 0 where
  pub count : ℕ
  pub there : slice_get history place ≡ Some (event.Blocked endpoint revision count)

by_kind : (history : List HistoryEvent) (place : ℕ) (endpoint : EndpointId) (revision : ℕ) (e : HistoryEvent) → slice_get history place ≡ Some e
    → Reports e endpoint revision → WasPublished history place endpoint revision ⊎ WasBlocked history place endpoint revision
by_kind history place endpoint revision (event.Commit pass number request) there reports = absurd reports
by_kind history place endpoint revision (event.Publish other at table) there reports =
    inl (record { table = table; there = there ∙ (λ i. Some (event.Publish (reports.0 i) (reports.1 i) table)) })
by_kind history place endpoint revision (event.Blocked other at count) there reports =
    inr (record { count = count; there = there ∙ (λ i. Some (event.Blocked (reports.0 i) (reports.1 i) count)) })

abbrev is_publish : Option HistoryEvent → Bool
is_publish None = false
is_publish (Some (event.Commit pass number request)) = false
is_publish (Some (event.Publish endpoint revision table)) = true
is_publish (Some (event.Blocked endpoint revision count)) = false

some_same : (a b : ℕ) → Some a ≡ Some b → a ≡ b
some_same a b same = cc

module _ (options : Options) (new : List HistoryEvent) (legal : IsLegal options new) (endpoint : EndpointId) (report : LastReport)
    (last : last_report endpoint new ≡ Some report) where
  is_last : IsLast new endpoint report
  is_last = subst (λ (o : Option LastReport). Tells new endpoint o) last (told new endpoint)

  kind : WasPublished new is_last.place endpoint report.revision ⊎ WasBlocked new is_last.place endpoint report.revision
  kind =
      let its = is_last.report.report in by_kind new is_last.place endpoint report.revision its.event its.there its.reports

  -- a published map is the last one published
  published_is : WasPublished new is_last.place endpoint report.revision → report.published ≡ Some report.revision
  published_is was =
      let found : IsLastPublish new endpoint report.revision = record {
        place = is_last.place;
        publish = record { table = was.table; there = was.there };
        none_after = λ later other after publish.
            let report_later : IsReport new later endpoint other =
            record { event = event.Publish endpoint other publish.table; there = publish.there; reports = (refl, refl) } in
            is_last.report.none_after later other after (slice_get_within new later (event.Publish endpoint other publish.table) publish.there) report_later;
      } in
      ap published_before (sym last) ∙ publish_last new endpoint report.revision found

  -- and one that was blocked isn't
  blocked_is : WasBlocked new is_last.place endpoint report.revision → report.published ≡ Some report.revision → ⊥
  blocked_is was same =
      let found : IsLastPublish new endpoint report.revision = last_publish new endpoint report.revision (ap published_before last ∙ same) in
      let one : IsReport new found.place endpoint report.revision =
      record { event = event.Publish endpoint report.revision found.publish.table; there = found.publish.there; reports = (refl, refl) } in
      let other : IsReport new is_last.place endpoint report.revision = is_last.report.report in
      elim (cases_lt found.place is_last.place) [
        | inl less ↦ absurd (omega (arith, reports_grow options new legal endpoint found.place is_last.place report.revision report.revision less one other))
        | inr no_less ↦
            elim (cases_lt is_last.place found.place) [
              | inl less ↦ absurd (omega (arith, reports_grow options new legal endpoint is_last.place found.place report.revision report.revision less other one))
              | inr no_more ↦
                  let place : is_last.place ≡ found.place = omega (arith, no_less, no_more) in
                  let both : Some (event.Blocked endpoint report.revision was.count) ≡ Some (event.Publish endpoint report.revision found.publish.table) =
                  sym was.there ∙ ap (λ (n : ℕ). slice_get new n) place ∙ found.publish.there in
                  absurd (false≢true (ap is_publish both))
            ]
      ]

module _ (options : Options) (slot synced : ℕ) (old new : List HistoryEvent) (legal : IsLegal options new) (shown : synced ≤ revision_of old)
    (longer : length old ≤ length new) where
  counted : (place : ℕ) (endpoint : EndpointId) (revision : ℕ) → synced ≤ revision → IsLastReport new (length new) place endpoint revision
      → Counts old new synced place endpoint revision
  counted place endpoint revision newer last = last_of_all-counts old new synced endpoint revision newer place longer last

  pub already-tells : (revision : ℕ) (is : IsAlready options slot old new revision) → is.report.published ≡ Some revision → HasShown options slot old new synced
  already-tells revision is published =
      let newer : synced ≤ is.report.revision = omega (arith, shown, is.taken.between.from, is.same) in
      let place = (is_last options new legal is.endpoint is.report is.last).place in
      let counts = counted place is.endpoint is.report.revision newer (is_last options new legal is.endpoint is.report is.last).report in
      record {
        endpoint = is.endpoint;
        revision = revision;
        taken = is.taken;
        publish = elim (kind options new legal is.endpoint is.report is.last) as (λ _. HasPublish old new synced is.endpoint) [
          | inl was ↦ record { revision = is.report.revision; table = was.table; place = place; there = was.there; counts = counts }
          | inr was ↦ absurd (blocked_is options new legal is.endpoint is.report is.last was (published ∙ ap (λ (r : ℕ). Some r) (sym is.same)))
        ];
      }

  pub already_full-tells : (row : FullSlot) (is : IsAlready options slot old new row.revision) → is.endpoint.name ≡ row.name
      → is.report.published ≢ Some row.revision → size_at options new is.endpoint row.revision ≡ Some row.count → HasRowOf options slot old new synced row
  already_full-tells row is name differs size =
      let newer : synced ≤ is.report.revision = omega (arith, shown, is.taken.between.from, is.same) in
      let place = (is_last options new legal is.endpoint is.report is.last).place in
      let counts = counted place is.endpoint is.report.revision newer (is_last options new legal is.endpoint is.report is.last).report in
      record {
        endpoint = is.endpoint;
        revision = row.revision;
        taken = is.taken;
        is = elim (kind options new legal is.endpoint is.report is.last) as (λ _. IsRowOf old new synced is.endpoint row) [
          | inl was ↦ absurd (differs (published_is options new legal is.endpoint is.report is.last was ∙ ap (λ (r : ℕ). Some r) is.same))
          | inr was ↦
              let there : slice_get new place ≡ Some (event.Blocked is.endpoint row.revision was.count) =
              was.there ∙ ap (λ (r : ℕ). Some (event.Blocked is.endpoint r was.count)) is.same in
              let count : was.count ≡ row.count =
              some_same was.count row.count (sym (legal.count place is.endpoint row.revision was.count there) ∙ size) in
              record {
                name = name;
                place = place;
                there = there ∙ ap (λ (n : ℕ). Some (event.Blocked is.endpoint row.revision n)) count;
                counts = subst (λ (r : ℕ). Counts old new synced place is.endpoint r) is.same counts;
              }
        ];
      }
