-- What a call may answer, it may answer to a caller who had seen less before it, and has seen more after it.
use Rattle.std.proofs.Common.{◌≡◌, ℕ, ◌+◌, ◌-◌, ◌<◌, ◌≤◌, ◌==◌, ◌⊎◌, inl, inr, List, length, take, None, Some, sym, ap, ◌∙◌, subst, arith}
use Rattle.std.specs.List.{slice_get}
use Rattle.std.proofs.lemmas.Option.{slice_get_within}
use mathlib.Core.List.{IsPrefix}
use Rattle.pol_model.specs.Committed.{identity_given, slots_of}
use Rattle.pol_model.specs.Explain.{explain_of}
use Rattle.pol_model.specs.Endpoints.{endpoint_of}
use Rattle.pol_model.specs.Fault.{fault_of}
use Rattle.pol_model.specs.State.{State}
use Rattle.pol_model.specs.declared.answer.Committed.{Committed}
use Rattle.pol_model.specs.declared.answer.FullSlot.{FullSlot}
use Rattle.pol_model.specs.declared.answer.Refused.{Refused}
use Rattle.pol_model.specs.declared.answer.Trace.{Trace}
use Rattle.pol_model.specs.declared.options.Options.{Options}
use Rattle.pol_model.specs.declared.request.Query.{Query}
use Rattle.pol_model.specs.declared.request.Request.{Request}
use Rattle.pol_model.specs.declared.row.Endpoint.{Endpoint}
use Rattle.pol_model_laws.proofs.Remembered.{added-by}
use Rattle.pol_data.proofs.Members.{Contains-from_In}
use Rattle.std.proofs.lemmas.List.{length-take}
use Rattle.pol_model_laws.proofs.Membership.{find-In}
use Rattle.pol_history.specs.declared.event.EndpointId.{EndpointId}
use Rattle.pol_history.specs.declared.event.HistoryEvent.{HistoryEvent}
use Rattle.pol_history.specs.declared.event.HistoryEvent.TheVariants as event
use Rattle.pol_history.specs.Calls.{Counts, HasPublish, HasRow, IsAbsent, IsAccepted, IsBetween, IsRefused, IsRow, IsRowOf, IsTraced}
use Rattle.pol_history.specs.Commits.{Lives, commits_in, live_endpoint, revision_of, state_after, state_now}
use Rattle.pol_history.specs.Machine.{endpoint_id, endpoint_in}
use Rattle.pol_history.specs.Regenerate.{HasGone, IsFull, IsGone, IsPublished, WasTaken}
use Rattle.pol_history.specs.Reports.{IsLastReport, IsReport}
use Rattle.pol_history.proofs.Beginnings.{prefix_get, prefix_length, prefix_take}
use Rattle.pol_history.proofs.Cuts.{state-now}
use Rattle.pol_history.proofs.Lists.{get_front}
use Rattle.pol_history.proofs.Lives.{lives-then}
use Rattle.pol_history.proofs.Own.{commit-counts, map-prefix, revision-prefix, state-prefix}

-- an element of the whole that stands within a beginning stands in the beginning
back_within : (old new : List HistoryEvent) (i : ℕ) (e : HistoryEvent) → IsPrefix old new → i < length old → slice_get new i ≡ Some e → slice_get old i ≡ Some e
back_within old new i e begins below there = sym (get_front old begins.0 i below) ∙ ap (λ (h : List HistoryEvent). slice_get h i) begins.1 ∙ there

report_later : (old new : List HistoryEvent) (i : ℕ) (endpoint : EndpointId) (revision : ℕ) → IsPrefix old new → IsReport old i endpoint revision
    → IsReport new i endpoint revision
report_later old new i endpoint revision begins report =
    record { event = report.event; there = prefix_get old new i report.event begins report.there; reports = report.reports }

report_back : (old new : List HistoryEvent) (i : ℕ) (endpoint : EndpointId) (revision : ℕ) → IsPrefix old new → i < length old → IsReport new i endpoint revision
    → IsReport old i endpoint revision
report_back old new i endpoint revision begins below report =
    record { event = report.event; there = back_within old new i report.event begins below report.there; reports = report.reports }

-- the last report among events of a beginning
pub last_later : (old new : List HistoryEvent) (n i : ℕ) (endpoint : EndpointId) (revision : ℕ) → IsPrefix old new → n ≤ length old
    → IsLastReport old n i endpoint revision → IsLastReport new n i endpoint revision
last_later old new n i endpoint revision begins within last = record {
  report = report_later old new i endpoint revision begins last.report;
  among = last.among;
  none_after = λ later other after among report.
      last.none_after later other after among (report_back old new later endpoint other begins (omega (arith, among)) report);
}

-- what is live in a slot at a revision was added by then
added_then : (options : Options) (history : List HistoryEvent) (revision slot : ℕ) (row : Endpoint)
    → endpoint_in slot (state_after options history revision).endpoints ≡ Some row → row.added ≤ revision
added_then options history revision slot row found =
    let inside = find-In (λ (r : Endpoint). r.slot == slot) row (state_after options history revision).endpoints found in
    let there = Contains-from_In (state_after options history revision).endpoints row inside.0 in
    let by = added-by options (take revision (commits_in history)) row there in
    let below = slice_get_within (take revision (commits_in history)) (row.added - 1) _ by.1 in
    let most = length-take revision (commits_in history) in omega (arith, by.0, below, most)

module _ (shorter old new longer : List HistoryEvent) (less : IsPrefix shorter old) (more : IsPrefix new longer) where
  pub between-kept : (revision : ℕ) → IsBetween old new revision → IsBetween shorter longer revision
  between-kept revision between =
      let before = revision-prefix shorter old less in
      let after = revision-prefix new longer more in
      record { from = omega (arith, before, between.from); upto = omega (arith, after, between.upto) }

  past_kept : (place : ℕ) → length old ≤ place → length shorter ≤ place
  past_kept place past = let before = prefix_length shorter old less in omega (arith, before, past)

  -- ---- syncs

  pub counts-kept : (synced place : ℕ) (endpoint : EndpointId) (revision : ℕ) → Counts old new synced place endpoint revision
      → Counts shorter longer synced place endpoint revision
  counts-kept synced place endpoint revision counts = record {
    newer = counts.newer;
    prefix = counts.prefix;
    begins = past_kept counts.prefix counts.begins;
    within = let after = prefix_length new longer more in omega (arith, after, counts.within);
    last = last_later new longer counts.prefix place endpoint revision more counts.within counts.last;
  }

  pub row_of-kept : (synced : ℕ) (endpoint : EndpointId) (row : FullSlot) → IsRowOf old new synced endpoint row → IsRowOf shorter longer synced endpoint row
  row_of-kept synced endpoint row is = record {
    name = is.name;
    place = is.place;
    there = prefix_get new longer is.place (event.Blocked endpoint row.revision row.count) more is.there;
    counts = counts-kept synced is.place endpoint row.revision is.counts;
  }

  pub row-kept : (synced : ℕ) (row : FullSlot) → IsRow old new synced row → IsRow shorter longer synced row
  row-kept synced row is = record { endpoint = is.endpoint; is = row_of-kept synced is.endpoint row is.is }

  pub has_row-kept : (synced : ℕ) (full : List FullSlot) (endpoint : EndpointId) → HasRow old new synced full endpoint → HasRow shorter longer synced full endpoint
  has_row-kept synced full endpoint has = record { row = has.row; listed = has.listed; is = row_of-kept synced endpoint has.row has.is }

  pub has_publish-kept : (synced : ℕ) (endpoint : EndpointId) → HasPublish old new synced endpoint → HasPublish shorter longer synced endpoint
  has_publish-kept synced endpoint has = record {
    revision = has.revision;
    table = has.table;
    place = has.place;
    there = prefix_get new longer has.place (event.Publish endpoint has.revision has.table) more has.there;
    counts = counts-kept synced has.place endpoint has.revision has.counts;
  }

module _ (options : Options) (shorter old new longer : List HistoryEvent) (less : IsPrefix shorter old) (more : IsPrefix new longer) where
  state_kept : (revision : ℕ) → revision ≤ revision_of new → state_after options new revision ≡ state_after options longer revision
  state_kept revision within = sym (state-prefix options new longer revision more within)

  -- ---- commits

  pub accepted-kept : (pass : ℕ) (request : Request) (done : Committed) → IsAccepted options pass old new request done
      → IsAccepted options pass shorter longer request done
  accepted-kept pass request done accepted =
      let below = slice_get_within new accepted.place _ accepted.there in
      let cut = prefix_take accepted.place new longer more (omega (arith, below)) in
      let counts = commit-counts new accepted.place pass accepted.number request accepted.there in
      let state = state_kept done.revision (omega (arith, counts, accepted.revision)) in
      record {
        place = accepted.place;
        number = accepted.number;
        there = prefix_get new longer accepted.place (event.Commit pass accepted.number request) more accepted.there;
        past = past_kept shorter old new longer less more accepted.place accepted.past;
        revision = accepted.revision ∙ ap (λ (h : List HistoryEvent). revision_of h + 1) (sym cut);
        identity = accepted.identity ∙ ap (λ (s : State). identity_given s request) state;
        slots = accepted.slots ∙ ap (λ (s : State). slots_of s.endpoints) state;
      }

  pub refused-kept : (request : Request) (refused : Refused) → IsRefused options old new request refused → IsRefused options shorter longer request refused
  refused-kept request refused is = record {
    between = between-kept shorter old new longer less more refused.revision is.between;
    fault = ap (λ (s : State). fault_of s request) (sym (state_kept refused.revision is.between.upto)) ∙ is.fault;
  }

  -- ---- traces

  pub traced-kept : (query : Query) (revision : ℕ) (trace : Trace) → IsTraced options old new query revision trace
      → IsTraced options shorter longer query revision trace
  traced-kept query revision trace traced = record {
    between = between-kept shorter old new longer less more revision traced.between;
    explains = ap (λ (s : State). explain_of options s query) (sym (state_kept revision traced.between.upto)) ∙ traced.explains;
  }

  pub absent-kept : (query : Query) (revision : ℕ) → IsAbsent options old new query revision → IsAbsent options shorter longer query revision
  absent-kept query revision absent = record {
    between = between-kept shorter old new longer less more revision absent.between;
    absent = ap (λ (s : State). endpoint_of query.endpoint s.endpoints) (sym (state_kept revision absent.between.upto)) ∙ absent.absent;
  }

  -- ---- regenerations

  pub taken-kept : (slot : ℕ) (endpoint : EndpointId) (revision : ℕ) → WasTaken options slot old new endpoint revision
      → WasTaken options slot shorter longer endpoint revision
  taken-kept slot endpoint revision taken = record {
    between = between-kept shorter old new longer less more revision taken.between;
    row = taken.row;
    live = ap (live_endpoint endpoint) (sym (state_kept revision taken.between.upto)) ∙ taken.live;
    in_slot = taken.in_slot;
  }

  pub published-kept : (slot revision : ℕ) → IsPublished options slot old new revision → IsPublished options slot shorter longer revision
  published-kept slot revision is = record {
    endpoint = is.endpoint;
    taken = taken-kept slot is.endpoint revision is.taken;
    table = is.table;
    place = is.place;
    there = prefix_get new longer is.place (event.Publish is.endpoint revision is.table) more is.there;
    past = past_kept shorter old new longer less more is.place is.past;
    canonical = map-prefix options new longer is.endpoint revision more is.taken.between.upto ∙ is.canonical;
  }

  pub full-kept : (slot revision count : ℕ) → IsFull options slot old new revision count → IsFull options slot shorter longer revision count
  full-kept slot revision count is = record {
    endpoint = is.endpoint;
    taken = taken-kept slot is.endpoint revision is.taken;
    place = is.place;
    there = prefix_get new longer is.place (event.Blocked is.endpoint revision count) more is.there;
    past = past_kept shorter old new longer less more is.place is.past;
  }

  -- an endpoint that is gone stays so
  pub gone-kept : (endpoint : EndpointId) → endpoint.added ≤ revision_of new → (Lives (state_now options new) endpoint → ⊥)
      → Lives (state_now options longer) endpoint → ⊥
  gone-kept endpoint added gone lives =
      let within = revision-prefix new longer more in
      let then = lives-then options longer endpoint lives.row (revision_of new) within added lives.found in
      gone (record {
        row = lives.row;
        found = subst (λ (s : State). live_endpoint endpoint s ≡ Some lives.row)
            (state-prefix options new longer (revision_of new) more (omega arith) ∙ state-now options new) then;
      })

  has_gone-kept : (slot revision : ℕ) → revision ≤ revision_of new → HasGone options slot new revision → HasGone options slot longer revision
  has_gone-kept slot revision within has =
      let added = added_then options new revision slot has.row has.was in
      record {
        row = has.row;
        was = ap (λ (s : State). endpoint_in slot s.endpoints) (sym (state_kept revision within)) ∙ has.was;
        gone = gone-kept (endpoint_id has.row) (omega (arith, added, within)) has.gone;
      }

  pub is_gone-kept : (slot : ℕ) → IsGone options slot old new → IsGone options slot shorter longer
  is_gone-kept slot is = record {
    revision = is.revision;
    between = between-kept shorter old new longer less more is.revision is.between;
    gone = elim is.gone as (λ _. (endpoint_in slot (state_after options longer is.revision).endpoints ≡ None) ⊎ HasGone options slot longer is.revision) [
      | inl none ↦ inl (ap (λ (s : State). endpoint_in slot s.endpoints) (sym (state_kept is.revision is.between.upto)) ∙ none)
      | inr has ↦ inr (has_gone-kept slot is.revision is.between.upto has)
    ];
  }
