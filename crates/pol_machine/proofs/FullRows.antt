-- The rows of a sync are told by what is kept.
use Rattle.std.proofs.Common.{◌≡◌, ℕ, inl, inr, List, [], ◌∷◌, ◌++◌, map, Option, None, Some, IfOk, Result, Ok, Err, option_map, refl, sym, ap, ◌∙◌, subst, append_assoc, append-nil}
use Rattle.std.proofs.lemmas.Option.{same_Some}
use Rattle.std.specs.List.{cons_option, filter_map, flat_map}
use Rattle.std.specs.List.Sorted.{IsPermutation}
use Rattle.pol_data.proofs.Members.{In}
use Rattle.pol_history.specs.declared.event.EndpointId.{EndpointId}
use Rattle.pol_history.specs.declared.event.HistoryEvent.{HistoryEvent}
use Rattle.pol_history.specs.declared.event.LastReport.{LastReport}
use Rattle.pol_history.specs.Commits.{state_now}
use Rattle.pol_history.specs.Held.{ShowsRow}
use Rattle.pol_history.specs.Machine.{Machine, endpoint_id}
use Rattle.pol_history.specs.Reports.{last_report}
use Rattle.pol_history.proofs.Contents.{content-rows}
use Rattle.pol_history.proofs.Lists.{no_element}
use Rattle.pol_history.proofs.Names.{slot-found, slot-live}
use Rattle.pol_history.proofs.Same.{live-parts}
use Rattle.pol_model.specs.Endpoints.{endpoint_of}
use Rattle.pol_model.specs.State.{State}
use Rattle.pol_model.specs.declared.answer.FullSlot.{FullSlot}
use Rattle.pol_model.specs.declared.options.Options.{Options}
use Rattle.pol_model.specs.declared.row.Endpoint.{Endpoint}
use Rattle.pol_model.specs.FullRows.{FullRowsAscend}
use Rattle.pol_repo.specs.Repository.{state_in}
use Rattle.pol_machine.specs.Full.{row_by, row_kept, row_told}
use Rattle.pol_machine.specs.Rows.{row_held}
use Rattle.pol_machine.specs.Serial.{ListsRows, row_of, row_reported, rows_in, turn_of, turns_at, turns_in}
use Rattle.pol_machine.specs.Stands.{Kept, StandsFor, TellsFull, options_of}
use Rattle.pol_machine.specs.declared.row.MachineRow.{MachineRow}
use Rattle.pol_repo_history.proofs.AtHistory.{state_at}
use Rattle.pol_machine.proofs.Led.{turns_of_slots}

-- ---- a list of rows

pub one_more : {X : Type 0} (out : List X) (row : Option X) (rest : List X) → (out ++ cons_option row []) ++ rest ≡ out ++ cons_option row rest
one_more out None rest = ap (λ xs. xs ++ rest) (append-nil out)
one_more out (Some row) rest = append_assoc out (row ∷ []) rest

same_rows : (kept told : Endpoint → Option FullSlot) (es : List Endpoint) → ((e : Endpoint) → In e es → kept e ≡ told e) → filter_map kept es ≡ filter_map told es
same_rows kept told [] each = refl
same_rows kept told (e ∷ es) each = λ i. cons_option (each e (inl refl) i) (same_rows kept told es (λ x there. each x (inr there)) i)

-- ---- what a row tells

tells : (options : Options) (history : List HistoryEvent) (id : EndpointId) (report : Option LastReport) (full : Option ℕ)
    → TellsFull options history id report full → row_by id.name report full ≡ row_reported options history id report
tells options history id None full is = refl
tells options history id (Some report) full is = ap (row_told id.name report) is.1

module _ (k : Kept) (m : Machine) (stands : StandsFor k m) where
  abbrev options : Options
  options = options_of k

  abbrev history : List HistoryEvent
  history = m.history

  module _ (e : Endpoint) (there : In e (state_now options history).endpoints) where
    found : endpoint_of e.name (state_now options history).endpoints ≡ Some e
    found =
        (live-parts (endpoint_id e) (state_now options history) e
        (slot-live options history stands.sound.legal e.slot e (slot-found options history e there))).0

    shows : (row : Option MachineRow) → k.rows e.name ≡ row → ShowsRow options history e.name (option_map row_held row)
    shows row is =
        subst (ShowsRow options history e.name) (sym (stands.live e.name) ∙ ap (option_map row_held) is) (content-rows options history stands.sound.legal e.name)

    by_row : (row : Option MachineRow) → k.rows e.name ≡ row → row_kept e row ≡ row_of options history e
    by_row None is = absurd (no_element e (sym (shows None is) ∙ found))
    by_row (Some row) is =
        let one = shows (Some row) is in
        let same : one.endpoint ≡ e = same_Some one.endpoint e (sym one.found ∙ found) in
        let added : row.added ≡ e.added = one.added ∙ ap (λ (x : Endpoint). x.added) same in
        let report : row.report ≡ last_report (endpoint_id e) history = one.report ∙ ap (λ (x : Endpoint). last_report (endpoint_id x) history) same in
        tells options history (record { name = e.name; added = row.added }) row.report row.full (stands.works e.name row is).full
        ∙ (λ i. row_reported options history (record { name = e.name; added = added i }) (report i))

  pub full_are : filter_map (λ (e : Endpoint). row_kept e (k.rows e.name)) (state_in k.repo).endpoints ≡ rows_in options history
  full_are =
      ap (λ (s : State). filter_map (λ (e : Endpoint). row_kept e (k.rows e.name)) s.endpoints) (state_at options history k.repo stands.at)
      ∙ same_rows (λ (e : Endpoint). row_kept e (k.rows e.name)) (row_of options history) (state_now options history).endpoints (λ e there. by_row e there (k.rows e.name) refl)

  -- so the rows that are kept are told
  pub lists : {E : Type 0} (result : Result (List FullSlot) E) (es : List Endpoint) → es ≡ (state_in k.repo).endpoints
      → IfOk result (λ (full : List FullSlot). IsPermutation (filter_map (λ (e : Endpoint). row_kept e (k.rows e.name)) es) full) → IfOk result FullRowsAscend
      → IfOk result (ListsRows options history)
  lists (Ok full) es is those sorted = record {
    those = subst (λ (rows : List FullSlot). IsPermutation rows full) (ap (filter_map (λ (e : Endpoint). row_kept e (k.rows e.name))) is ∙ full_are) those;
    sorted = sorted;
  }
  lists (Err error) es is those sorted = tt

  -- the slots of the endpoints are those of a sync
  pub turns_are : (slots : List ℕ) (es : List Endpoint) → slots ≡ map (λ (e : Endpoint). e.slot) es → es ≡ (state_in k.repo).endpoints
      → turns_at slots ≡ turns_in options history
  turns_are slots es slots_are is =
      ap turns_at slots_are
      ∙ turns_of_slots es
      ∙ ap (λ (rows : List Endpoint). flat_map (λ (e : Endpoint). turn_of e.slot) rows) is
      ∙ ap (λ (s : State). flat_map (λ (e : Endpoint). turn_of e.slot) s.endpoints) (state_at options history k.repo stands.at)
