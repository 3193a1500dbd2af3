-- What a slot keeps of its endpoint, from the take to the finish.
use Rattle.std.proofs.Common.{◌≡◌, ℕ, ◌≤◌, ◌⊎◌, inl, inr, Bool, true, false, not, cond, List, Option, None, Some, Result, Ok, Err, IfSome, IfOk, IfErr, option_map, refl, sym, ap, ◌∙◌, subst}
use Rattle.std.specs.Arc.{arc_value}
use Rattle.std.proofs.lemmas.Bool.{false≢true}
use Rattle.std.proofs.lemmas.Option.{same_Some}
use mathlib.Core.List.{IsPrefix}
use Rattle.pol_model.specs.declared.answer.FullSlot.{FullSlot}
use Rattle.pol_model.specs.declared.options.Options.{Options}
use Rattle.pol_model.specs.declared.row.Endpoint.{Endpoint}
use Rattle.pol_history.specs.declared.event.EndpointId.{EndpointId}
use Rattle.pol_history.specs.declared.event.HistoryEvent.{HistoryEvent}
use Rattle.pol_history.specs.declared.event.LastReport.{LastReport}
use Rattle.pol_history.specs.declared.turn.SlotTurn.{SlotTurn}
use Rattle.pol_history.specs.Commits.{live_endpoint, revision_of, same_endpoint, state_now}
use Rattle.pol_history.specs.Legal.{IsLegal}
use Rattle.pol_history.specs.Machine.{endpoint_id, endpoint_in}
use Rattle.pol_history.specs.Reports.{last_report, published_before}
use Rattle.pol_history.proofs.Names.{slot-live}
use Rattle.pol_history.proofs.Same.{same-is}
use Rattle.pol_slot_map.specs.declared.follow.Followed.{Followed}
use Rattle.pol_slot_map.specs.Follow.{FollowsOn, GoesOn, IsStartOf, Stays}
use Rattle.pol_slot_map.specs.Followed.{Follows, id_in}
use Rattle.pol_slot_map.proofs.Keeping.{follows-later, follows-shown, follows-start}
use Rattle.pol_taken.specs.declared.taken.Taken.{Taken}
use Rattle.pol_node.specs.declared.kept.KeptEndpoint.{KeptEndpoint}
use Rattle.pol_node.specs.declared.report.Finished.{Finished}
use Rattle.pol_node.specs.declared.report.Finished.TheVariants as done
use Rattle.pol_node.specs.declared.report.RegenError.{RegenError}
use Rattle.pol_node.specs.declared.report.RegenError.TheVariants as error
use Rattle.pol_node.specs.declared.slot.Done.{Done}
use Rattle.pol_node.specs.Kept.{IsKeptOf, IsKeptWith, IsLastNow, IsOvertaken, IsReportedAs, IsStill, Keeps, KeptReport, NotRegenerated, NotReported, ReportsOn, ShowsOn, StaysAt, is_of_other, kept_unless, known, report_in, since_of}
use Rattle.pol_node.specs.Lost.{is_gone, is_lost, is_overtaken}
use Rattle.pol_node.specs.Slot.{IsTakenAt, turn_of}
use Rattle.pol_node.proofs.Following.{of_own_slot, own_slot}
use Rattle.pol_node.proofs.Reporting.{WasTakenAt, overtaken_then, still_then}

-- ---- a longer history

pub is_kept-later : (options : Options) (old new : List HistoryEvent) (kept : KeptEndpoint) → IsPrefix old new → IsKeptOf options old kept → IsKeptOf options new kept
is_kept-later options old new kept begins is = record { follows = follows-later options old new kept.followed begins is.follows; shown = is.shown }

pub some_kept-later : (options : Options) (old new : List HistoryEvent) (kept : Option KeptEndpoint) → IsPrefix old new
    → IfSome kept (IsKeptOf options old) → IfSome kept (IsKeptOf options new)
some_kept-later options old new None begins is = tt
some_kept-later options old new (Some kept) begins is = is_kept-later options old new kept begins is

pub some_keeps : (options : Options) (history : List HistoryEvent) (kept : Option KeptEndpoint) → IfSome kept (Keeps options history) → IfSome kept (IsKeptOf options history)
some_keeps options history None keeps = tt
some_keeps options history (Some kept) keeps = keeps.is

-- the revision that is kept is one of the history
pub since_within : (options : Options) (history : List HistoryEvent) (kept : Option KeptEndpoint) → IfSome kept (Keeps options history)
    → IfSome (since_of kept) (λ revision. revision ≤ revision_of history)
since_within options history None keeps = tt
since_within options history (Some kept) keeps = keeps.is.follows.within

-- so is that of the map that was published last
pub shown_within : (options : Options) (history : List HistoryEvent) (kept : KeptEndpoint) → Keeps options history kept
    → IfSome (published_before kept.last) (λ revision. revision ≤ revision_of history)
shown_within options history kept keeps =
    subst (λ (shown : Option ℕ). IfSome shown (λ revision. revision ≤ revision_of history)) keeps.is.shown keeps.is.follows.shown_within

-- ---- the slot's endpoint at the take

module _ (options : Options) (history : List HistoryEvent) (slot : ℕ) (row : Endpoint) (there : endpoint_in slot (state_now options history).endpoints ≡ Some row)
  where
    pub still_here : (kept : Option KeptReport) → last_report (endpoint_id row) history ≡ known kept (endpoint_id row) → IsStill options history slot kept
    still_here kept same other found =
        let one : other ≡ row = same_Some other row (sym found ∙ there) in
        subst (λ (r : Endpoint). last_report (endpoint_id r) history ≡ known kept (endpoint_id r)) (sym one) same

    module _ (legal : IsLegal options history) where
      keeps_if : (kept : KeptEndpoint) (test : Bool) → same_endpoint (id_in kept.followed) (endpoint_id row) ≡ test → IsKeptOf options history kept
          → last_report (endpoint_id row) history ≡ cond test kept.last None → IfSome (kept_unless (not test) (Some kept)) (Keeps options history)
      keeps_if kept true is of same =
          let id : id_in kept.followed ≡ endpoint_id row = same-is (id_in kept.followed) (endpoint_id row) is in
          record {
            is = of;
            row = row;
            live = ap (λ (e : EndpointId). live_endpoint e (state_now options history)) id ∙ slot-live options history legal slot row there;
            last = ap (λ (e : EndpointId). last_report e history) id ∙ same;
          }
      keeps_if kept false is of same = tt

      -- what goes on to be kept
      pub keeps_here : (kept : Option KeptEndpoint) → IfSome kept (IsKeptOf options history)
          → last_report (endpoint_id row) history ≡ known (option_map report_in kept) (endpoint_id row)
          → IfSome (kept_unless (is_of_other (endpoint_id row) kept) kept) (Keeps options history)
      keeps_here None of same = tt
      keeps_here (Some kept) of same = keeps_if kept (same_endpoint (id_in kept.followed) (endpoint_id row)) refl of same

with_if : (history : List HistoryEvent) (row : Endpoint) (kept : KeptEndpoint) (test : Bool) → same_endpoint (id_in kept.followed) (endpoint_id row) ≡ test
    → last_report (endpoint_id row) history ≡ cond test kept.last None → IsKeptWith history row (kept_unless (not test) (Some kept))
with_if history row kept true is same = same-is (id_in kept.followed) (endpoint_id row) is
with_if history row kept false is same = same

pub kept_with : (history : List HistoryEvent) (row : Endpoint) (kept : Option KeptEndpoint)
    → last_report (endpoint_id row) history ≡ known (option_map report_in kept) (endpoint_id row)
    → IsKeptWith history row (kept_unless (is_of_other (endpoint_id row) kept) kept)
kept_with history row None same = same
kept_with history row (Some kept) same = with_if history row kept (same_endpoint (id_in kept.followed) (endpoint_id row)) refl same

-- nothing else than was kept is reported of the slot's endpoint
pub stays_here : (options : Options) (history : List HistoryEvent) (slot : ℕ) (row : Endpoint)
    → endpoint_in slot (state_now options history).endpoints ≡ Some row → IsLegal options history → (old new : Option KeptEndpoint)
    → IfSome old (IsKeptOf options history) → last_report (endpoint_id row) history ≡ known (option_map report_in old) (endpoint_id row)
    → new ≡ kept_unless (is_of_other (endpoint_id row) old) old → StaysAt options history slot old new
stays_here options history slot row there legal old new of same is = record {
  still = still_here options history slot row there (option_map report_in old) same;
  keeps = subst (λ (k : Option KeptEndpoint). IfSome k (Keeps options history)) (sym is) (keeps_here options history slot row there legal old of same);
  known = λ other found.
      let one : other ≡ row = same_Some other row (sym found ∙ there) in
      subst (λ (r : Endpoint). IsKeptWith history r new) (sym one)
      (subst (λ (k : Option KeptEndpoint). IsKeptWith history row k) (sym is) (kept_with history row old same));
}

-- ---- the map is made

same_id : (old new : Followed) → FollowsOn old new → id_in new ≡ id_in old
same_id old new on = λ i. record { name = on.name i; added = on.added i }

went : (old new : Followed) (options : Options) (history : List HistoryEvent) (last : Option LastReport)
    → FollowsOn old new → Follows options history new → Keeps options history (record { followed = old; last = last })
    → Keeps options history (record { followed = new; last = last })
went old new options history last on follows keeps = record {
  is = record { follows = follows; shown = on.shown ∙ keeps.is.shown };
  row = keeps.row;
  live = ap (λ (e : EndpointId). live_endpoint e (state_now options history)) (same_id old new on) ∙ keeps.live;
  last = ap (λ (e : EndpointId). last_report e history) (same_id old new on) ∙ keeps.last;
}

goes_either : (taken : Taken) (old new : Followed) → Stays old new ⊎ GoesOn (arc_value taken.filters) taken.sets taken.revision old new → FollowsOn old new
goes_either taken old new (inl stays) = stays.follows
goes_either taken old new (inr on) = on.follows

-- it goes on, or doesn't
pub keeps_went : (options : Options) (history : List HistoryEvent) (taken : Taken) (old : KeptEndpoint) (new : Followed)
    → Stays old.followed new ⊎ GoesOn (arc_value taken.filters) taken.sets taken.revision old.followed new → Follows options history new
    → Keeps options history old → Keeps options history (record { followed = new; last = old.last })
keeps_went options history taken old new either follows keeps =
    went old.followed new options history old.last (goes_either taken old.followed new either) follows keeps

-- and is of the endpoint that was taken
pub with_went : (taken : Taken) (old new : Followed) → Stays old new ⊎ GoesOn (arc_value taken.filters) taken.sets taken.revision old new
    → id_in old ≡ endpoint_id taken.endpoint → id_in new ≡ endpoint_id taken.endpoint
with_went taken old new either id = same_id old new (goes_either taken old new either) ∙ id

-- it begins
pub keeps_start : (options : Options) (history : List HistoryEvent) (slot : ℕ) (taken : Taken) (is : IsTakenAt options history slot taken) (f : Followed)
    → IsStartOf taken f → last_report (endpoint_id taken.endpoint) history ≡ None → Keeps options history (record { followed = f; last = None })
keeps_start options history slot taken is f start none =
    let id : id_in f ≡ endpoint_id taken.endpoint = λ i. record { name = start.name i; added = start.added i } in
    record {
      is = record {
        follows = follows-start options history is.legal slot taken is.is is.revision is.made f start;
        shown = start.shown;
      };
      row = taken.endpoint;
      live = ap (λ (e : EndpointId). live_endpoint e (state_now options history)) id ∙ slot-live options history is.legal slot taken.endpoint is.is.endpoint;
      last = ap (λ (e : EndpointId). last_report e history) id ∙ none;
    }

-- ---- the finish

module _ (options : Options) (history : List HistoryEvent) (endpoint : EndpointId) where
  reported_keeps : (f : Followed) (last : Option LastReport) (shown : Option ℕ) → id_in f ≡ endpoint → Follows options history f → f.shown ≡ shown
      → IsReportedAs options history endpoint last shown → Keeps options history (record { followed = f; last = last })
  reported_keeps f last shown id follows is reported = record {
    is = record { follows = follows; shown = is ∙ sym reported.shows };
    row = reported.now.live.row;
    live = ap (λ (e : EndpointId). live_endpoint e (state_now options history)) id ∙ reported.now.live.found;
    last = ap (λ (e : EndpointId). last_report e history) id ∙ reported.now.is;
  }

  module _ (revision : ℕ) (old : KeptEndpoint) (of : IsKeptOf options history old) (id : id_in old.followed ≡ endpoint) where
    unshown : (f : Followed) (last : Option LastReport) → f ≡ old.followed → IsReportedAs options history endpoint last (published_before old.last)
        → Keeps options history (record { followed = f; last = last })
    unshown f last same reported =
        subst (λ (one : Followed). Keeps options history (record { followed = one; last = last })) (sym same)
        (reported_keeps old.followed last (published_before old.last) id of.follows of.shown reported)

    -- what is kept after it, where the endpoint isn't gone
    pub keeps_reported : (finished : Finished) (f : Followed) (last : Option LastReport) → old.followed.kept ≡ revision → ShowsOn finished old.followed f
        → ReportsOn options history endpoint revision old.last finished last → (finished ≡ done.Gone → ⊥)
        → Keeps options history (record { followed = f; last = last })
    keeps_reported done.Published f last made shown reported here =
        let same : id_in f ≡ endpoint = (λ i. record { name = shown.name i; added = shown.added i }) ∙ id in
        reported_keeps f last (Some revision) same (follows-shown options history old.followed f of.follows shown)
        (shown.shown ∙ ap (λ (n : ℕ). Some n) made) reported
    keeps_reported (done.Already published) f last made shown reported here = unshown f last shown reported
    keeps_reported done.Full f last made shown reported here = unshown f last shown reported
    keeps_reported done.Gone f last made shown reported here = absurd (here refl)

-- ---- from the take to the end

module _ (options : Options) (old new : List HistoryEvent) (begins : IsPrefix old new) (legal : IsLegal options new) (slot : ℕ) (taken : Taken)
    (is : IsTakenAt options old slot taken) where
  pub was : WasTakenAt options old new taken
  was = record { begins = begins; legal = legal; revision = is.revision; is = (of_own_slot options old slot taken is).is }

  module _ (before : Option KeptReport) (still : IsStill options old slot before) where
    known_is : known before (endpoint_id taken.endpoint) ≡ last_report (endpoint_id taken.endpoint) old
    known_is = sym (still taken.endpoint is.is.endpoint)

    -- what a finish says of the endpoint's last report is so of what was kept before
    pub not_regenerated : (why : RegenError) → NotReported options new (endpoint_id taken.endpoint) (last_report (endpoint_id taken.endpoint) old) why
        → NotRegenerated options new slot before why
    not_regenerated error.Memory now =
        subst (λ (n : ℕ). IsStill options new n before) (own_slot options old slot taken is)
        (still_then options old new taken was before (last_report (endpoint_id taken.endpoint) old) known_is now)
    not_regenerated error.Overtaken more =
        subst (λ (n : ℕ). IsOvertaken options new n before) (own_slot options old slot taken is)
        (overtaken_then options old new taken was before (last_report (endpoint_id taken.endpoint) old) known_is more)

-- a turn that isn't of an endpoint that is gone
pub not_gone : (row : FullSlot) (finished : Finished) (told : SlotTurn) → told ≡ turn_of row finished → is_gone told ≡ false → finished ≡ done.Gone → ⊥
not_gone row finished told is lives gone = false≢true (sym lives ∙ ap is_gone (is ∙ ap (turn_of row) gone))

-- ---- what goes on to be kept

-- where nothing was reported, since there was no memory
pub left_keeps : (options : Options) (old new : List HistoryEvent) → IsPrefix old new → (kept : KeptEndpoint) → Keeps options old kept → (endpoint : EndpointId)
    → id_in kept.followed ≡ endpoint → (why : RegenError) → NotReported options new endpoint (last_report endpoint old) why → is_overtaken why ≡ false
    → Keeps options new kept
left_keeps options old new begins kept keeps endpoint id error.Memory now left = record {
  is = is_kept-later options old new kept begins keeps.is;
  row = now.live.row;
  live = ap (λ (e : EndpointId). live_endpoint e (state_now options new)) id ∙ now.live.found;
  last = ap (λ (e : EndpointId). last_report e new) id ∙ now.is ∙ ap (λ (e : EndpointId). last_report e old) (sym id) ∙ keeps.last;
}
left_keeps options old new begins kept keeps endpoint id error.Overtaken more left = absurd (false≢true (sym left))

unless_lost : (P : KeptEndpoint → Type 0) (lost : Bool) (kept : Option KeptEndpoint) → (lost ≡ false → IfSome kept P) → IfSome (kept_unless lost kept) P
unless_lost P true kept keeps = tt
unless_lost P false kept keeps = keeps refl

lost_or_kept : (K : Type 0) (result : Result Done RegenError) → IfOk result (λ done. is_gone done.turn ≡ false → K)
    → IfErr result (λ why. is_overtaken why ≡ false → K) → is_lost result ≡ false → K
lost_or_kept K (Ok done) ok err = ok
lost_or_kept K (Err why) ok err = err

-- what is lost is let go, and what isn't keeps
pub keeps_after : (options : Options) (history : List HistoryEvent) (result : Result Done RegenError) (kept new : Option KeptEndpoint) (lost : Bool)
    → lost ≡ is_lost result → new ≡ kept_unless lost kept → IfOk result (λ done. is_gone done.turn ≡ false → IfSome kept (Keeps options history))
    → IfErr result (λ why. is_overtaken why ≡ false → IfSome kept (Keeps options history)) → IfSome new (Keeps options history)
keeps_after options history result kept new lost lost_is is ok err =
    subst (λ (o : Option KeptEndpoint). IfSome o (Keeps options history)) (sym is)
    (unless_lost (Keeps options history) lost kept
    (λ same. lost_or_kept (IfSome kept (Keeps options history)) result ok err (sym lost_is ∙ same)))

-- what contracts see of it
pub last_now : (options : Options) (history : List HistoryEvent) (kept : Option KeptEndpoint) → IfSome kept (Keeps options history)
    → IfSome (option_map report_in kept) (λ report. IsLastNow options history report.endpoint report.last)
last_now options history None keeps = tt
last_now options history (Some kept) keeps = record { live = record { row = keeps.row; found = keeps.live }; is = keeps.last }
