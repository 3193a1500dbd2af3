-- The slot's endpoint is the one that goes on to be kept.
use Rattle.std.proofs.Common.{◌≡◌, ℕ, Bool, true, false, cond, List, Option, None, Some, Result, Ok, Err, IsSomeAnd, IfSome, IfOk, IfErr, option_map, refl, sym, ap, ◌∙◌, subst}
use Rattle.std.proofs.lemmas.Option.{same_Some}
use Rattle.pol_model.specs.declared.options.Options.{Options}
use Rattle.pol_model.specs.declared.row.Endpoint.{Endpoint}
use Rattle.pol_history.specs.declared.event.EndpointId.{EndpointId}
use Rattle.pol_history.specs.declared.event.HistoryEvent.{HistoryEvent}
use Rattle.pol_history.specs.declared.event.LastReport.{LastReport}
use Rattle.pol_history.specs.Commits.{live_endpoint, state_now}
use Rattle.pol_history.specs.Machine.{endpoint_id, endpoint_in}
use Rattle.pol_history.specs.Reports.{last_report}
use Rattle.pol_history.proofs.Names.{live-id, live-in, slot-found}
use Rattle.pol_history.proofs.Same.{is-same}
use Rattle.pol_slot_map.specs.declared.follow.Followed.{Followed}
use Rattle.pol_slot_map.specs.Followed.{id_in}
use Rattle.pol_taken.specs.declared.taken.Taken.{Taken}
use Rattle.pol_node.specs.declared.kept.KeptEndpoint.{KeptEndpoint}
use Rattle.pol_node.specs.declared.report.Finished.{Finished}
use Rattle.pol_node.specs.declared.report.Finished.TheVariants as done
use Rattle.pol_node.specs.declared.report.RegenError.{RegenError}
use Rattle.pol_node.specs.declared.report.RegenError.TheVariants as error
use Rattle.pol_node.specs.declared.slot.Done.{Done}
use Rattle.pol_node.specs.Kept.{IsKeptWith, IsStill, Keeps, KeptReport, ShowsOn, StaysAt, kept_unless, known, report_in}
use Rattle.pol_node.specs.KeptAfter.{KeepsAfterError, KeepsAt, KeepsEndpoint, KeepsStill, KeepsUnlessGone}
use Rattle.pol_node.specs.Lost.{is_gone, is_lost, is_overtaken}
use Rattle.pol_node.proofs.Reporting.{WasTakenAt, row_now}

-- the endpoint that is followed is the same after a finish
pub same_shown : (finished : Finished) (old new : Followed) → ShowsOn finished old new → id_in new ≡ id_in old
same_shown done.Published old new shown = λ i. record { name = shown.name i; added = shown.added i }
same_shown (done.Already published) old new same = ap id_in same
same_shown done.Full old new same = ap id_in same
same_shown done.Gone old new same = ap id_in same

-- what is kept of what was taken is of its slot
pub keeps_at : (options : Options) (old new : List HistoryEvent) (taken : Taken) → WasTakenAt options old new taken → (kept : KeptEndpoint)
    → id_in kept.followed ≡ endpoint_id taken.endpoint → Keeps options new kept → KeepsAt options new taken.endpoint.slot kept
keeps_at options old new taken was kept id keeps = record {
  keeps = keeps;
  in_slot =
      let live : live_endpoint (endpoint_id taken.endpoint) (state_now options new) ≡ Some keeps.row =
      ap (λ (e : EndpointId). live_endpoint e (state_now options new)) (sym id) ∙ keeps.live in
      ap (λ (row : Endpoint). row.slot) (row_now options old new taken was keeps.row live);
}

-- ---- its last report is the one that is kept

known_own : (endpoint : EndpointId) (last : Option LastReport)
    → last ≡ known (Some (record { endpoint = endpoint; last = last })) endpoint
known_own endpoint last = ap (λ (same : Bool). cond same last None) (sym (is-same endpoint))

module _ (options : Options) (history : List HistoryEvent) (slot : ℕ) where
  still_of : (kept : Option KeptReport) (row : Endpoint) → endpoint_in slot (state_now options history).endpoints ≡ Some row
      → last_report (endpoint_id row) history ≡ known kept (endpoint_id row) → IsStill options history slot kept
  still_of kept row there same other found =
      subst (λ (r : Endpoint). last_report (endpoint_id r) history ≡ known kept (endpoint_id r)) (same_Some row other (sym there ∙ found)) same

  pub keeps_endpoint : (kept : KeptEndpoint) → KeepsAt options history slot kept → KeepsEndpoint options history slot (Some (report_in kept))
  keeps_endpoint kept at =
      let row = at.keeps.row in
      let id : id_in kept.followed ≡ endpoint_id row = sym (live-id options history (id_in kept.followed) row at.keeps.live) in
      let last : kept.last ≡ last_report (endpoint_id row) history = sym at.keeps.last ∙ ap (λ (e : EndpointId). last_report e history) id in
      record {
        row = row;
        there =
            subst (λ (n : ℕ). endpoint_in n (state_now options history).endpoints ≡ Some row) at.in_slot
            (slot-found options history row (live-in options history (id_in kept.followed) row at.keeps.live));
        is = λ i. Some (record { endpoint = id i; last = last i });
      }

  endpoint_still : (kept : Option KeptReport) → KeepsEndpoint options history slot kept → IsStill options history slot kept
  endpoint_still kept keeps =
      still_of kept keeps.row keeps.there
      (known_own (endpoint_id keeps.row) (last_report (endpoint_id keeps.row) history)
      ∙ ap (λ (k : Option KeptReport). known k (endpoint_id keeps.row)) (sym keeps.is))

  -- what goes on to be kept where nothing was reported
  pub at_still : (kept : KeptEndpoint) → KeepsAt options history slot kept → KeepsStill options history slot (Some kept)
  at_still kept at = record { keeps = at.keeps; still = endpoint_still (Some (report_in kept)) (keeps_endpoint kept at) }

  known_with : (kept : Option KeptEndpoint) (row : Endpoint) → IfSome kept (Keeps options history) → IsKeptWith history row kept
      → last_report (endpoint_id row) history ≡ known (option_map report_in kept) (endpoint_id row)
  known_with None row keeps none = none
  known_with (Some kept) row keeps id =
      let last : last_report (endpoint_id row) history ≡ kept.last = ap (λ (e : EndpointId). last_report e history) (sym id) ∙ keeps.last in
      last ∙ known_own (endpoint_id row) kept.last
      ∙ ap (λ (e : EndpointId). known (Some (record { endpoint = e; last = kept.last })) (endpoint_id row)) (sym id)

  pub with_still : (kept : Option KeptEndpoint) (row : Endpoint) → endpoint_in slot (state_now options history).endpoints ≡ Some row
      → IfSome kept (Keeps options history) → IsKeptWith history row kept → KeepsStill options history slot kept
  with_still kept row there keeps with = record {
    keeps = keeps;
    still = still_of (option_map report_in kept) row there (known_with kept row keeps with);
  }

  pub stays_still : (old new : Option KeptEndpoint) → StaysAt options history slot old new → KeepsStill options history slot new
  stays_still old new stays = record {
    keeps = stays.keeps;
    still = λ row there. known_with new row stays.keeps (stays.known row there);
  }

  -- ---- what is lost is let go

  some_keeps_at : (kept : Option KeptEndpoint) → IsSomeAnd kept (KeepsAt options history slot) → IfSome kept (Keeps options history)
  some_keeps_at None at = tt
  some_keeps_at (Some kept) at = at.keeps

  -- it keeps, where it isn't lost
  pub ok_keeps : (result : Result Done RegenError) (kept : Option KeptEndpoint)
      → IfOk result (λ done. is_gone done.turn ≡ false → IsSomeAnd kept (KeepsAt options history slot))
      → IfOk result (λ done. is_gone done.turn ≡ false → IfSome kept (Keeps options history))
  ok_keeps (Ok done) kept at = λ lives. some_keeps_at kept (at lives)
  ok_keeps (Err why) kept at = tt

  pub err_keeps : (result : Result Done RegenError) (kept : Option KeptEndpoint)
      → IfErr result (λ why. is_overtaken why ≡ false → KeepsStill options history slot kept)
      → IfErr result (λ why. is_overtaken why ≡ false → IfSome kept (Keeps options history))
  err_keeps (Ok done) kept left = tt
  err_keeps (Err why) kept left = λ more. (left more).keeps

  some_endpoint : (kept : Option KeptEndpoint) → IsSomeAnd kept (KeepsAt options history slot) → KeepsEndpoint options history slot (option_map report_in kept)
  some_endpoint None at = absurd at
  some_endpoint (Some kept) at = keeps_endpoint kept at

  unless_gone : (kept : Option KeptEndpoint) (gone : Bool) → (gone ≡ false → IsSomeAnd kept (KeepsAt options history slot))
      → KeepsUnlessGone options history slot (option_map report_in (kept_unless gone kept)) gone
  unless_gone kept true at = refl
  unless_gone kept false at = some_endpoint kept (at refl)

  unless_error : (kept : Option KeptEndpoint) (why : RegenError) → (is_overtaken why ≡ false → KeepsStill options history slot kept)
      → KeepsAfterError options history slot (option_map report_in (kept_unless (is_overtaken why) kept)) why
  unless_error kept error.Memory left = (left refl).still
  unless_error kept error.Overtaken left = refl

  ok_after : (result : Result Done RegenError) (kept : Option KeptEndpoint)
      → IfOk result (λ done. is_gone done.turn ≡ false → IsSomeAnd kept (KeepsAt options history slot))
      → IfOk result (λ done. KeepsUnlessGone options history slot (option_map report_in (kept_unless (is_lost result) kept)) (is_gone done.turn))
  ok_after (Ok done) kept at = unless_gone kept (is_gone done.turn) at
  ok_after (Err why) kept at = tt

  err_after : (result : Result Done RegenError) (kept : Option KeptEndpoint)
      → IfErr result (λ why. is_overtaken why ≡ false → KeepsStill options history slot kept)
      → IfErr result (KeepsAfterError options history slot (option_map report_in (kept_unless (is_lost result) kept)))
  err_after (Ok done) kept left = tt
  err_after (Err why) kept left = unless_error kept why left

  -- so what is kept afterwards is as is told
  module _ (result : Result Done RegenError) (kept new : Option KeptEndpoint) (lost : Bool) (lost_is : lost ≡ is_lost result) (is : new ≡ kept_unless lost kept)
    where
      new_is : kept_unless (is_lost result) kept ≡ new
      new_is = ap (λ (l : Bool). kept_unless l kept) (sym lost_is) ∙ sym is

      pub kept_after : IfOk result (λ done. is_gone done.turn ≡ false → IsSomeAnd kept (KeepsAt options history slot))
          → IfOk result (λ done. KeepsUnlessGone options history slot (option_map report_in new) (is_gone done.turn))
      kept_after at =
          subst (λ (k : Option KeptEndpoint). IfOk result (λ (done : Done). KeepsUnlessGone options history slot (option_map report_in k) (is_gone done.turn)))
          new_is (ok_after result kept at)

      pub left_after : IfErr result (λ why. is_overtaken why ≡ false → KeepsStill options history slot kept)
          → IfErr result (KeepsAfterError options history slot (option_map report_in new))
      left_after left =
          subst (λ (k : Option KeptEndpoint). IfErr result (KeepsAfterError options history slot (option_map report_in k))) new_is (err_after result kept left)
