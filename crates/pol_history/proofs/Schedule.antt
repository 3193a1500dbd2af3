-- Each legal history with all its commits by pass 0 is the history of steps: before a commit those slots are taken whose
-- maps at the present revision are reported later, and a report is a finish.
use Rattle.std.proofs.Common.{zero, suc, ◌≡◌, ◌≢◌, ℕ, ◌+◌, ◌==◌, ◌<◌, ◌≤◌, inl, inr, not, Bool, true, false, if◌then◌else◌, List, [], ◌∷◌, ◌++◌, length, map, take, IfSome, Option, None, Some, option_map, refl, sym, ap, ◌∙◌, subst, arith, append_assoc, append-nil, length-append}
use Rattle.std.specs.List.{cons_option, filter_map, slice_get}
use Rattle.std.proofs.Math.Seq.{take-length}
use Rattle.std.proofs.lemmas.Bool.{cases_lt, cases_order, eqb-true}
use Rattle.std.proofs.lemmas.Bool.Decides.{eqb_tells}
use Rattle.std.proofs.lemmas.List.{take-append-le}
use Rattle.pol_data.proofs.Members.{In}
use Rattle.pol_mapkey.specs.Entries.{Entry as MapEntry}
use Rattle.pol_model.specs.PolicyMap.{policy_map, map_size}
use Rattle.pol_model.specs.State.{State}
use Rattle.pol_model.specs.declared.answer.Fault.{Fault}
use Rattle.pol_model.specs.declared.options.Options.{Options}
use Rattle.pol_model.specs.declared.request.Request.{Request}
use Rattle.pol_model.specs.declared.row.Endpoint.{Endpoint}
use Rattle.pol_model.specs.FullRows.{fits_limit}
use Rattle.pol_history.specs.declared.event.EndpointId.{EndpointId}
use Rattle.pol_history.specs.declared.event.HistoryEvent.{HistoryEvent}
use Rattle.pol_history.specs.declared.event.HistoryEvent.TheVariants as event
use Rattle.pol_history.specs.declared.event.LastReport.{LastReport}
use Rattle.pol_history.specs.declared.machine.Event.{Event}
use Rattle.pol_history.specs.declared.machine.Event.TheVariants as step
use Rattle.pol_history.specs.Commits.{commits_by, live_endpoint, revision_of, state_after, state_now}
use Rattle.pol_history.specs.Legal.{IsLegal}
use Rattle.pol_history.specs.Machine.{Machine, AreOfPassZero, HasSteps, Taken, endpoint_id, endpoint_in, history_of_steps, is_reported, machine_from, report_table, report_taken, report_unless, step_commit, step_finish, step_of, step_take, taken_now}
use Rattle.pol_history.specs.MayFollow.{BlockedMayFollow, CommitMayFollow, MayFollow, PublishMayFollow, ReportMayFollow}
use Rattle.pol_history.specs.Reports.{IsReport, Reports, last_report}
use Rattle.pol_history.proofs.Grown.{commits_bound}
use Rattle.pol_history.proofs.Cuts.{revision-append, revision-grows, state-cut, state-now}
use Rattle.pol_history.proofs.LastReports.{one_revision}
use Rattle.pol_history.proofs.LegalEvents.{legal_front, legal_last}
use Rattle.pol_history.proofs.Lists.{get_behind, get_seam, no_element}
use Rattle.pol_history.proofs.Lives.{lives-then}
use Rattle.pol_history.proofs.Names.{live-id, live-in, one_in_slot, slot-found}

-- ---- machines, by their parts

abbrev machine : List HistoryEvent → (ℕ → Option Taken) → Machine
machine history taken = record { history = history; taken = taken }

abbrev taken_of : EndpointId → ℕ → Taken
taken_of endpoint revision = record { endpoint = endpoint; revision = revision }

-- what slots have taken once this one was asked for
abbrev take_of : List HistoryEvent → ℕ → Option Endpoint → (ℕ → Option Taken) → ℕ → Option Taken
take_of front slot None taken = taken
take_of front slot (Some row) taken = λ other. if other == slot then Some (taken_now front row) else taken other

abbrev takes_of : Options → List HistoryEvent → List ℕ → (ℕ → Option Taken) → ℕ → Option Taken
takes_of options front [] taken = taken
takes_of options front (slot ∷ slots) taken =
    takes_of options front slots (take_of front slot (endpoint_in slot (state_now options front).endpoints) taken)

abbrev spent : ℕ → (ℕ → Option Taken) → ℕ → Option Taken
spent slot taken = λ other. if other == slot then None else taken other

steps_append : (options : Options) (m : Machine) (first later : List Event) → machine_from options m (first ++ later) ≡ machine_from options (machine_from options m first) later
steps_append options m [] later = refl
steps_append options m (next ∷ first) later = steps_append options (step_of options m next).1 first later

-- ---- takes

taken_step : (front : List HistoryEvent) (taken : ℕ → Option Taken) (slot : ℕ) (found : Option Endpoint)
    → (step_take (machine front taken) slot found).1 ≡ machine front (take_of front slot found taken)
taken_step front taken slot None = refl
taken_step front taken slot (Some row) = refl

takes_are : (options : Options) (front : List HistoryEvent) (slots : List ℕ) (taken : ℕ → Option Taken)
    → machine_from options (machine front taken) (map step.Take slots) ≡ machine front (takes_of options front slots taken)
takes_are options front [] taken = refl
takes_are options front (slot ∷ slots) taken =
    let found = endpoint_in slot (state_now options front).endpoints in
    ap (λ (m : Machine). machine_from options m (map step.Take slots)) (taken_step front taken slot found)
    ∙ takes_are options front slots (take_of front slot found taken)

-- a slot that wasn't asked for
not_taken : (front : List HistoryEvent) (slot other : ℕ) (found : Option Endpoint) (taken : ℕ → Option Taken) → other ≢ slot → take_of front slot found taken other ≡ taken other
not_taken front slot other None taken differ = refl
not_taken front slot other (Some row) taken differ =
    elim (eqb_tells other slot) [ inl same ↦ absurd (differ same.1) | inr apart ↦ rw (apart.0) refl ]

takes_out : (options : Options) (front : List HistoryEvent) (slots : List ℕ) (taken : ℕ → Option Taken) (other : ℕ) → (In other slots → ⊥)
    → takes_of options front slots taken other ≡ taken other
takes_out options front [] taken other none = refl
takes_out options front (slot ∷ slots) taken other none =
    let found = endpoint_in slot (state_now options front).endpoints in
    takes_out options front slots (take_of front slot found taken) other (λ later. none (inr later))
    ∙ not_taken front slot other found taken (λ same. none (inl (sym same)))

-- one that was
is_taken : (front : List HistoryEvent) (slot other : ℕ) (row : Endpoint) (found : Option Endpoint) (taken : ℕ → Option Taken)
    → (other ≡ slot → found ≡ Some row) → (other ≢ slot → taken other ≡ Some (taken_now front row))
    → take_of front slot found taken other ≡ Some (taken_now front row)
is_taken front slot other row None taken here kept =
    kept (λ same. absurd (let no : None ≡ Some row = here same in cc))
is_taken front slot other row (Some its) taken here kept =
    elim (eqb_tells other slot) [
      | inl same ↦
          let found : Some its ≡ Some row = here same.1 in
          let one : its ≡ row = (cc) in
          rw (same.0) (ap (λ (r : Endpoint). Some (taken_now front r)) one)
      | inr apart ↦ rw (apart.0) (kept apart.1)
    ]

module _ (options : Options) (front : List HistoryEvent) (other : ℕ) (row : Endpoint)
    (live : endpoint_in other (state_now options front).endpoints ≡ Some row) where
  found_here : (slot : ℕ) → other ≡ slot → endpoint_in slot (state_now options front).endpoints ≡ Some row
  found_here slot same = subst (λ (n : ℕ). endpoint_in n (state_now options front).endpoints ≡ Some row) same live

  stays_taken : (slots : List ℕ) (taken : ℕ → Option Taken) → taken other ≡ Some (taken_now front row) → takes_of options front slots taken other ≡ Some (taken_now front row)
  stays_taken [] taken now = now
  stays_taken (slot ∷ slots) taken now =
      let found = endpoint_in slot (state_now options front).endpoints in
      stays_taken slots (take_of front slot found taken) (is_taken front slot other row found taken (found_here slot) (λ apart. now))

  takes_in : (slots : List ℕ) (taken : ℕ → Option Taken) → In other slots → takes_of options front slots taken other ≡ Some (taken_now front row)
  takes_in [] taken there = elim there [ ]
  takes_in (slot ∷ slots) taken (inl same) =
      let found = endpoint_in slot (state_now options front).endpoints in
      stays_taken slots (take_of front slot found taken) (is_taken front slot other row found taken (found_here slot) (λ apart. absurd (apart (sym same))))
  takes_in (slot ∷ slots) taken (inr later) = takes_in slots (take_of front slot (endpoint_in slot (state_now options front).endpoints) taken) later

-- ---- the steps of a history

-- the slot of an endpoint whose map at the present revision is reported
abbrev slot_at : Options → List HistoryEvent → EndpointId → ℕ → Option ℕ
slot_at options front endpoint revision =
    if revision == revision_of front then option_map (λ row. row.slot) (live_endpoint endpoint (state_now options front)) else None

abbrev slot_for : Options → List HistoryEvent → HistoryEvent → Option ℕ
slot_for options front (event.Commit pass number request) = None
slot_for options front (event.Publish endpoint revision table) = slot_at options front endpoint revision
slot_for options front (event.Blocked endpoint revision count) = slot_at options front endpoint revision

abbrev take_first : Bool → ℕ → List Event
take_first true slot = step.Take slot ∷ []
take_first false slot = []

abbrev finish_of : List HistoryEvent → ℕ → Option Endpoint → List Event
finish_of front revision None = []
finish_of front revision (Some row) = take_first (revision == revision_of front) row.slot ++ step.Finish row.slot ∷ []

abbrev steps_of : Options → List HistoryEvent → HistoryEvent → List HistoryEvent → List Event
steps_of options front (event.Commit pass number request) back = map step.Take (filter_map (slot_for options front) back) ++ step.Commit request ∷ []
steps_of options front (event.Publish endpoint revision table) back = finish_of front revision (live_endpoint endpoint (state_now options front))
steps_of options front (event.Blocked endpoint revision count) back = finish_of front revision (live_endpoint endpoint (state_now options front))

abbrev steps_from : Options → List HistoryEvent → List HistoryEvent → List Event
steps_from options front [] = []
steps_from options front (next ∷ back) = steps_of options front next back ++ steps_from options (front ++ next ∷ []) back

-- ---- which slots are asked for

module _ {X Y : Type 0} (f : X → Option Y) where
  beside : (o : Option Y) (y : Y) (ys : List Y) → In y ys → In y (cons_option o ys)
  beside None y ys later = later
  beside (Some z) y ys later = inr later

  in_filter_map : (xs : List X) (i : ℕ) (x : X) (y : Y) → slice_get xs i ≡ Some x → f x ≡ Some y → In y (filter_map f xs)
  in_filter_map [] i x y there is = absurd (no_element x there)
  in_filter_map (z ∷ xs) zero x y there is =
      let one : z ≡ x = (cc) in
      let here : f z ≡ Some y = ap f one ∙ is in
      subst (λ (o : Option Y). In y (cons_option o (filter_map f xs))) (sym here) (inl refl)
  in_filter_map (z ∷ xs) (suc i) x y there is = beside (f z) y (filter_map f xs) (in_filter_map xs i x y there is)

  record ComesFrom (xs : List X) (y : Y) : Type 0 where
    place : ℕ
    element : X
    there : slice_get xs place ≡ Some element
    is : f element ≡ Some y

  later_from : (x : X) (xs : List X) (y : Y) → ComesFrom xs y → ComesFrom (x ∷ xs) y
  later_from x xs y from = record { place = suc from.place; element = from.element; there = from.there; is = from.is }

  by_first : (x : X) (xs : List X) (y : Y) (o : Option Y) → f x ≡ o → (In y (filter_map f xs) → ComesFrom xs y)
      → In y (cons_option o (filter_map f xs)) → ComesFrom (x ∷ xs) y
  by_first x xs y None is others inside = later_from x xs y (others inside)
  by_first x xs y (Some z) is others (inl same) = record { place = 0; element = x; there = refl; is = is ∙ ap Some same }
  by_first x xs y (Some z) is others (inr inside) = later_from x xs y (others inside)

  -- what is in such a list comes from an element
  from_filter_map : (xs : List X) (y : Y) → In y (filter_map f xs) → ComesFrom xs y
  from_filter_map [] y there = elim there [ ]
  from_filter_map (x ∷ xs) y there = by_first x xs y (f x) refl (from_filter_map xs y) there

-- an event asks for a slot where it is a report at the present revision, of the endpoint that is live there
record Asks (options : Options) (front : List HistoryEvent) (asking : HistoryEvent) (slot : ℕ) : Type 0 where
  endpoint : EndpointId
  revision : ℕ
  reports : Reports asking endpoint revision
  now : revision ≡ revision_of front
  row : Endpoint
  live : live_endpoint endpoint (state_now options front) ≡ Some row
  same : row.slot ≡ slot

record AsksAt (options : Options) (front : List HistoryEvent) (endpoint : EndpointId) (revision slot : ℕ) : Type 0 where
  now : revision ≡ revision_of front
  row : Endpoint
  live : live_endpoint endpoint (state_now options front) ≡ Some row
  same : row.slot ≡ slot

module _ (options : Options) (front : List HistoryEvent) where
  by_row : (endpoint : EndpointId) (revision slot : ℕ) (found : Option Endpoint) → live_endpoint endpoint (state_now options front) ≡ found
      → revision ≡ revision_of front → option_map (λ (row : Endpoint). row.slot) found ≡ Some slot → AsksAt options front endpoint revision slot
  by_row endpoint revision slot None live now is = absurd (no_element slot is)
  by_row endpoint revision slot (Some row) live now is = record { now = now; row = row; live = live; same = cc }

  asks_at : (endpoint : EndpointId) (revision slot : ℕ) → slot_at options front endpoint revision ≡ Some slot → AsksAt options front endpoint revision slot
  asks_at endpoint revision slot is =
      elim (eqb_tells revision (revision_of front)) [
        | inl same ↦
            let found : option_map (λ (row : Endpoint). row.slot) (live_endpoint endpoint (state_now options front)) ≡ Some slot = (rw same.0 at is) in
            by_row endpoint revision slot (live_endpoint endpoint (state_now options front)) refl same.1 found
        | inr differ ↦ absurd (let none : None ≡ Some slot = (rw differ.0 at is) in no_element slot none)
      ]

  asks : (asking : HistoryEvent) (slot : ℕ) → slot_for options front asking ≡ Some slot → Asks options front asking slot
  asks (event.Commit pass number request) slot is = absurd (no_element slot is)
  asks (event.Publish endpoint revision table) slot is =
      let at = asks_at endpoint revision slot is in
      record { endpoint = endpoint; revision = revision; reports = (refl, refl); now = at.now; row = at.row; live = at.live; same = at.same }
  asks (event.Blocked endpoint revision count) slot is =
      let at = asks_at endpoint revision slot is in
      record { endpoint = endpoint; revision = revision; reports = (refl, refl); now = at.now; row = at.row; live = at.live; same = at.same }

  asked_at : (endpoint : EndpointId) (revision : ℕ) (row : Endpoint) → revision ≡ revision_of front → live_endpoint endpoint (state_now options front) ≡ Some row
      → slot_at options front endpoint revision ≡ Some row.slot
  asked_at endpoint revision row now live =
      elim (eqb_tells revision (revision_of front)) [
        | inl same ↦ rw (same.0) (ap (option_map (λ (r : Endpoint). r.slot)) live)
        | inr differ ↦ absurd (differ.1 now)
      ]

  asked : (asking : HistoryEvent) (endpoint : EndpointId) (revision : ℕ) (row : Endpoint) → Reports asking endpoint revision → revision ≡ revision_of front
      → live_endpoint endpoint (state_now options front) ≡ Some row → slot_for options front asking ≡ Some row.slot
  asked (event.Commit pass number request) endpoint revision row reports now live = absurd reports
  asked (event.Publish other at table) endpoint revision row reports now live =
      ap (λ (e : EndpointId). slot_at options front e at) reports.0 ∙ ap (slot_at options front endpoint) reports.1 ∙ asked_at endpoint revision row now live
  asked (event.Blocked other at count) endpoint revision row reports now live =
      ap (λ (e : EndpointId). slot_at options front e at) reports.0 ∙ ap (slot_at options front endpoint) reports.1 ∙ asked_at endpoint revision row now live

-- ---- reports that are still to come

-- what was taken for those whose revision has passed
abbrev Pending : Options → List HistoryEvent → List HistoryEvent → (ℕ → Option Taken) → Type 0
Pending options front back taken =
    (i : ℕ) (endpoint : EndpointId) (revision : ℕ) (row : Endpoint) → IsReport back i endpoint revision → revision < revision_of front
    → live_endpoint endpoint (state_now options front) ≡ Some row → taken row.slot ≡ Some (taken_of endpoint revision)

behind : (front back : List HistoryEvent) (i : ℕ) (endpoint : EndpointId) (revision : ℕ) → IsReport back i endpoint revision
    → IsReport (front ++ back) (length front + i) endpoint revision
behind front back i endpoint revision report =
    record { event = report.event; there = get_behind front back i ∙ report.there; reports = report.reports }

-- two endpoints that are live now in one slot are one
one_slot : (options : Options) (front : List HistoryEvent) (a b : EndpointId) (first second : Endpoint)
    → live_endpoint a (state_now options front) ≡ Some first → live_endpoint b (state_now options front) ≡ Some second → first.slot ≡ second.slot → a ≡ b
one_slot options front a b first second live_a live_b same =
    let one = one_in_slot options front first second (live-in options front a first live_a) (live-in options front b second live_b) same in
    sym (live-id options front a first live_a) ∙ ap endpoint_id one ∙ live-id options front b second live_b

-- an endpoint that was live, and is still after one commit more, has the same row
still_live : (options : Options) (front : List HistoryEvent) (new : HistoryEvent) (endpoint : EndpointId) (row : Endpoint) → endpoint.added ≤ revision_of front
    → live_endpoint endpoint (state_now options (front ++ new ∷ [])) ≡ Some row → live_endpoint endpoint (state_now options front) ≡ Some row
still_live options front new endpoint row old live =
    subst (λ (s : State). live_endpoint endpoint s ≡ Some row)
    (state-cut options front (new ∷ []) (revision_of front) (omega arith) ∙ state-now options front)
    (lives-then options (front ++ new ∷ []) endpoint row (revision_of front) (omega (arith, revision-append front (new ∷ []))) old live)

-- ---- a finish

not_reported : (last : Option LastReport) (revision : ℕ) → IfSome last (λ l. l.revision < revision) → is_reported revision last ≡ false
not_reported None revision newer = refl
not_reported (Some last) revision newer =
    elim (eqb_tells last.revision revision) [ inl same ↦ absurd (omega (arith, same.1)) | inr differ ↦ differ.0 ]

module _ (options : Options) (front : List HistoryEvent) (taken : ℕ → Option Taken) (endpoint : EndpointId) (revision : ℕ) (row : Endpoint)
    (may : ReportMayFollow options front endpoint revision) (live : live_endpoint endpoint (state_now options front) ≡ Some row)
    (is : taken row.slot ≡ Some (taken_of endpoint revision)) where
  finished : (table : List MapEntry) (fits : Bool) → policy_map options (state_after options front revision) row ≡ table
      → fits_limit options.map_max (length table) ≡ fits
      → (step_of options (machine front taken) (step.Finish row.slot)).1
      ≡ (report_table options (machine front (spent row.slot taken)) (taken_of endpoint revision) table fits).1
  finished table fits is_table is_fit =
      let m = machine front taken in
      let left = machine front (spent row.slot taken) in
      let this = taken_of endpoint revision in
      ap (λ (o : Option Taken). (step_finish options m row.slot o).1) is
      ∙ ap (λ (o : Option Endpoint). (report_taken options left this o).1) live
      ∙ ap (λ (b : Bool). (report_unless options left this (policy_map options (state_after options front revision) row) b).1)
      (not_reported (last_report endpoint front) revision may.newer)
      ∙ ap (λ (t : List MapEntry). (report_table options left this t (fits_limit options.map_max (length t))).1) is_table
      ∙ ap (λ (b : Bool). (report_table options left this table b).1) is_fit

  live_then : live_endpoint endpoint (state_after options front revision) ≡ Some row
  live_then = lives-then options front endpoint row revision may.committed may.since_added live

  -- what is known at a report, as an option
  known : {X : Type 0} (f : State → Endpoint → X) (x : X) → option_map (f (state_after options front revision)) (live_endpoint endpoint (state_after options front revision)) ≡ Some x
      → f (state_after options front revision) row ≡ x
  known f x same =
      let both : Some (f (state_after options front revision) row) ≡ Some x = sym (ap (option_map (f (state_after options front revision))) live_then) ∙ same in cc

-- ---- one event more

-- the steps of an event lead to the history with it, and what is pending was taken
record IsPlayed (options : Options) (front : List HistoryEvent) (new : HistoryEvent) (back : List HistoryEvent) (taken : ℕ → Option Taken) : Type 0 where
  now : ℕ → Option Taken
  is : machine_from options (machine front taken) (steps_of options front new back) ≡ machine (front ++ new ∷ []) now
  pending : Pending options (front ++ new ∷ []) back now

front_of : (front back : List HistoryEvent) → take (length front) (front ++ back) ≡ front
front_of front back = take-append-le (length front) front back (omega arith) ∙ take-length front

added_early : (options : Options) (front : List HistoryEvent) (new : HistoryEvent) (back : List HistoryEvent) → IsLegal options (front ++ new ∷ back)
    → (i : ℕ) (endpoint : EndpointId) (revision : ℕ) → IsReport back i endpoint revision → endpoint.added ≤ revision
added_early options front new back legal i endpoint revision report =
    legal.since_added (length front + suc i) endpoint revision (behind front (new ∷ back) (suc i) endpoint revision (later report))
  where
    later : IsReport back i endpoint revision → IsReport (new ∷ back) (suc i) endpoint revision
    later r = record { event = r.event; there = r.there; reports = r.reports }

-- ---- a report

abbrev first_taken : List HistoryEvent → Endpoint → Bool → (ℕ → Option Taken) → ℕ → Option Taken
first_taken front row true taken = take_of front row.slot (Some row) taken
first_taken front row false taken = taken

spent_other : (slot other : ℕ) (taken : ℕ → Option Taken) → other ≢ slot → spent slot taken other ≡ taken other
spent_other slot other taken differ = elim (eqb_tells other slot) [ inl same ↦ absurd (differ same.1) | inr apart ↦ rw (apart.0) refl ]

module _ (options : Options) (front : List HistoryEvent) (new : HistoryEvent) (back : List HistoryEvent) (taken : ℕ → Option Taken)
    (legal : IsLegal options (front ++ new ∷ back)) (pending : Pending options front (new ∷ back) taken)
    (endpoint : EndpointId) (revision : ℕ) (reports : Reports new endpoint revision) (quiet : revision_of (new ∷ []) ≡ 0)
    (may : ReportMayFollow options front endpoint revision)
    (row : Endpoint) (live : live_endpoint endpoint (state_now options front) ≡ Some row) where
  first_are : (now : Bool) → machine_from options (machine front taken) (take_first now row.slot) ≡ machine front (first_taken front row now taken)
  first_are true =
      ap (λ (o : Option Endpoint). (step_take (machine front taken) row.slot o).1) (slot-found options front row (live-in options front endpoint row live))
  first_are false = refl

  here : IsReport (new ∷ back) 0 endpoint revision
  here = record { event = new; there = refl; reports = reports }

  first_here : (now : Bool) → (revision == revision_of front) ≡ now → first_taken front row now taken row.slot ≡ Some (taken_of endpoint revision)
  first_here true is =
      let this : Some (taken_now front row) ≡ Some (taken_of endpoint revision) =
      ap (λ (e : EndpointId). Some (taken_of e (revision_of front))) (live-id options front endpoint row live)
      ∙ ap (λ (n : ℕ). Some (taken_of endpoint n)) (sym (eqb-true revision (revision_of front) is)) in
      elim (eqb_tells row.slot row.slot) [ inl same ↦ rw (same.0) this | inr differ ↦ absurd (differ.1 refl) ]
  first_here false is =
      pending 0 endpoint revision row here
      (elim (eqb_tells revision (revision_of front)) [
        | inl same ↦ absurd (let no : true ≡ false = sym same.0 ∙ is in cc)
        | inr differ ↦ elim (cases_lt revision (revision_of front)) [ inl less ↦ less | inr more ↦ absurd (differ.1 (omega (arith, may.committed))) ]
      ])
      live

  first_other : (now : Bool) (other : ℕ) → other ≢ row.slot → first_taken front row now taken other ≡ taken other
  first_other true other differ = not_taken front row.slot other (Some row) taken differ
  first_other false other differ = refl

  -- what is pending is of other slots
  kept : (now : Bool) → Pending options (front ++ new ∷ []) back (spent row.slot (first_taken front row now taken))
  kept now i other at its report early its_live =
      let before : at < revision_of front = omega (arith, early, revision-append front (new ∷ []), quiet) in
      let old = added_early options front new back legal i other at report in
      let live_now = still_live options front new other its (omega (arith, old)) its_live in
      let later : IsReport (new ∷ back) (suc i) other at = record { event = report.event; there = report.there; reports = report.reports } in
      let apart : its.slot ≢ row.slot = (λ same.
      let one = one_slot options front other endpoint its row live_now live same in
      let again : IsReport (front ++ new ∷ back) (length front + suc i) endpoint at =
      subst (λ (e : EndpointId). IsReport (front ++ new ∷ back) (length front + suc i) e at) one (behind front (new ∷ back) (suc i) other at later) in
      let bound = commits_bound options (front ++ new ∷ back) legal endpoint (length front + 0) (length front + suc i) revision at (omega arith)
      (behind front (new ∷ back) 0 endpoint revision here) again in
      let all : revision_of (take (length front + 0) (front ++ new ∷ back)) ≡ revision_of front =
      ap (λ (n : ℕ). revision_of (take n (front ++ new ∷ back))) (omega arith) ∙ ap revision_of (front_of front (new ∷ back)) in
      omega (arith, bound, all)) in
      spent_other row.slot its.slot (first_taken front row now taken) apart
      ∙ first_other now its.slot apart
      ∙ pending (suc i) other at its later before live_now

  -- its steps
  finish_steps : (now : Bool) (after : List HistoryEvent)
      → (step_of options (machine front (first_taken front row now taken)) (step.Finish row.slot)).1 ≡ machine after (spent row.slot (first_taken front row now taken))
      → machine_from options (machine front taken) (take_first now row.slot ++ step.Finish row.slot ∷ [])
      ≡ machine after (spent row.slot (first_taken front row now taken))
  finish_steps now after finish =
      steps_append options (machine front taken) (take_first now row.slot) (step.Finish row.slot ∷ [])
      ∙ ap (λ (m : Machine). (step_of options m (step.Finish row.slot)).1) (first_are now)
      ∙ finish

not_fits : (b : Bool) → not b ≡ true → b ≡ false
not_fits true is = absurd (cc)
not_fits false is = refl

module _ (options : Options) (front back : List HistoryEvent) (taken : ℕ → Option Taken) (endpoint : EndpointId) (revision : ℕ) where
  publish_played : (table : List MapEntry) → IsLegal options (front ++ event.Publish endpoint revision table ∷ back)
      → Pending options front (event.Publish endpoint revision table ∷ back) taken
      → PublishMayFollow options front endpoint revision table → IsPlayed options front (event.Publish endpoint revision table) back taken
  publish_played table legal pending may =
      let new = event.Publish endpoint revision table in
      let row = may.report.live.row in
      let live = may.report.live.found in
      let now : Bool = revision == revision_of front in
      let first = first_taken front row now taken in
      let is = first_here options front new back taken legal pending endpoint revision (refl, refl) refl may.report row live now refl in
      let finish = finished options front first endpoint revision row may.report live is table true
      (known options front first endpoint revision row may.report live is (policy_map options) table may.canonical) may.fits in
      record {
        now = spent row.slot first;
        is = ap (λ (o : Option Endpoint). machine_from options (machine front taken) (finish_of front revision o)) live
            ∙ finish_steps options front new back taken legal pending endpoint revision (refl, refl) refl may.report row live now (front ++ new ∷ []) finish;
        pending = kept options front new back taken legal pending endpoint revision (refl, refl) refl may.report row live now;
      }

  blocked_played : (count : ℕ) → IsLegal options (front ++ event.Blocked endpoint revision count ∷ back)
      → Pending options front (event.Blocked endpoint revision count ∷ back) taken
      → BlockedMayFollow options front endpoint revision count → IsPlayed options front (event.Blocked endpoint revision count) back taken
  blocked_played count legal pending may =
      let new = event.Blocked endpoint revision count in
      let row = may.report.live.row in
      let live = may.report.live.found in
      let now : Bool = revision == revision_of front in
      let first = first_taken front row now taken in
      let is = first_here options front new back taken legal pending endpoint revision (refl, refl) refl may.report row live now refl in
      let table = policy_map options (state_after options front revision) row in
      let size : length table ≡ count = known options front first endpoint revision row may.report live is (map_size options) count may.size in
      let too_many : fits_limit options.map_max (length table) ≡ false = ap (fits_limit options.map_max) size ∙ not_fits (fits_limit options.map_max count) may.too_many in
      let finish = finished options front first endpoint revision row may.report live is table false refl too_many
      ∙ ap (λ (n : ℕ). machine (front ++ event.Blocked endpoint revision n ∷ []) (spent row.slot first)) size in
      record {
        now = spent row.slot first;
        is = ap (λ (o : Option Endpoint). machine_from options (machine front taken) (finish_of front revision o)) live
            ∙ finish_steps options front new back taken legal pending endpoint revision (refl, refl) refl may.report row live now (front ++ new ∷ []) finish;
        pending = kept options front new back taken legal pending endpoint revision (refl, refl) refl may.report row live now;
      }

-- ---- a commit

module _ (options : Options) (front back : List HistoryEvent) (taken : ℕ → Option Taken) (pass number : ℕ) (request : Request)
    (legal : IsLegal options (front ++ event.Commit pass number request ∷ back))
    (pending : Pending options front (event.Commit pass number request ∷ back) taken) where
  -- what comes behind the commit has it
  past_commit : (n : ℕ) → revision_of front + 1 ≤ revision_of (take (length front + suc n) (front ++ event.Commit pass number request ∷ back))
  past_commit n =
      let new = event.Commit pass number request in
      let whole : front ++ new ∷ back ≡ (front ++ new ∷ []) ++ back = sym (append_assoc front (new ∷ []) back) in
      let some : revision_of (take (length (front ++ new ∷ [])) (front ++ new ∷ back)) ≡ revision_of front + 1 =
      ap (λ (h : List HistoryEvent). revision_of (take (length (front ++ new ∷ [])) h)) whole
      ∙ ap revision_of (front_of (front ++ new ∷ []) back) ∙ revision-append front (new ∷ []) in
      omega (
        arith,
        some,
        revision-grows (length (front ++ new ∷ [])) (length front + suc n) (front ++ new ∷ back) (omega (arith, length-append front (new ∷ []))),
      )

  later_report : (i : ℕ) (endpoint : EndpointId) (revision : ℕ) → IsReport back i endpoint revision
      → IsReport (front ++ event.Commit pass number request ∷ back) (length front + suc i) endpoint revision
  later_report i endpoint revision report =
      behind front (event.Commit pass number request ∷ back) (suc i) endpoint revision
      (record { event = report.event; there = report.there; reports = report.reports })

  -- a report of a revision that has passed, and one at the present revision, are of two endpoints
  not_both : (i j : ℕ) (endpoint : EndpointId) (revision now : ℕ) → IsReport back i endpoint revision → IsReport back j endpoint now
      → revision < revision_of front → now ≡ revision_of front → ⊥
  not_both i j endpoint revision now first second early present =
      let whole = front ++ event.Commit pass number request ∷ back in
      elim (cases_order i j) [
        | inl same ↦
            omega (arith, early, present, one_revision back j endpoint revision now (subst (λ (n : ℕ). IsReport back n endpoint revision) same first) second)
        | inr (inl before) ↦
            omega (
              arith,
              present,
              past_commit i,
              commits_bound options whole legal endpoint (length front + suc i) (length front + suc j) revision now (omega (arith, before))
                  (later_report i endpoint revision first) (later_report j endpoint now second),
            )
        | inr (inr after) ↦
            omega (
              arith,
              early,
              past_commit j,
              commits_bound options whole legal endpoint (length front + suc j) (length front + suc i) now revision (omega (arith, after))
                  (later_report j endpoint now second) (later_report i endpoint revision first),
            )
      ]

  pending_then : Pending options (front ++ event.Commit pass number request ∷ []) back (takes_of options front (filter_map (slot_for options front) back) taken)
  pending_then i endpoint revision row report early its_live =
      let new = event.Commit pass number request in
      let slots = filter_map (slot_for options front) back in
      let before : revision ≤ revision_of front = omega (arith, early, revision-append front (new ∷ [])) in
      let old = added_early options front new back legal i endpoint revision report in
      let live_now = still_live options front new endpoint row (omega (arith, old)) its_live in
      elim (cases_lt revision (revision_of front)) [
        | inl passed ↦
            takes_out options front slots taken row.slot
            (λ inside.
            let from = from_filter_map (slot_for options front) back row.slot inside in
            let asking = asks options front from.element row.slot from.is in
            let one = one_slot options front asking.endpoint endpoint asking.row row asking.live live_now asking.same in
            let again : IsReport back from.place endpoint asking.revision =
            subst (λ (e : EndpointId). IsReport back from.place e asking.revision) one
            (record { event = from.element; there = from.there; reports = asking.reports }) in
            not_both i from.place endpoint revision asking.revision report again passed asking.now)
            ∙ pending (suc i) endpoint revision row (record { event = report.event; there = report.there; reports = report.reports }) passed live_now
        | inr more ↦
            let now : revision ≡ revision_of front = omega arith in
            let inside = in_filter_map (slot_for options front) back i report.event row.slot report.there
            (asked options front report.event endpoint revision row report.reports now live_now) in
            takes_in options front row.slot row (slot-found options front row (live-in options front endpoint row live_now)) slots taken inside
            ∙ ap (λ (e : EndpointId). Some (taken_of e (revision_of front))) (live-id options front endpoint row live_now)
            ∙ ap (λ (n : ℕ). Some (taken_of endpoint n)) (sym now)
      ]

  commit_played : pass ≡ 0 → CommitMayFollow options front pass number request → IsPlayed options front (event.Commit pass number request) back taken
  commit_played zero_pass may =
      let slots = filter_map (slot_for options front) back in
      let now = takes_of options front slots taken in
      let number_is : number ≡ length (commits_by 0 front) = may.next ∙ ap (λ (p : ℕ). length (commits_by p front)) zero_pass in
      record {
        now = now;
        is = steps_append options (machine front taken) (map step.Take slots) (step.Commit request ∷ [])
            ∙ ap (λ (m : Machine). (step_of options m (step.Commit request)).1) (takes_are options front slots taken)
            ∙ ap (λ (f : Option Fault). (step_commit options (machine front now) request f).1) may.no_fault
            ∙ (λ i. machine (front ++ event.Commit (sym zero_pass i) (sym number_is i) request ∷ []) now);
        pending = pending_then;
      }

-- ---- all events

played : (options : Options) (front : List HistoryEvent) (new : HistoryEvent) (back : List HistoryEvent) (taken : ℕ → Option Taken)
    → IsLegal options (front ++ new ∷ back) → ((pass number : ℕ) (request : Request) → new ≡ event.Commit pass number request → pass ≡ 0)
    → Pending options front (new ∷ back) taken → MayFollow options front new → IsPlayed options front new back taken
played options front (event.Commit pass number request) back taken legal by_zero pending may =
    commit_played options front back taken pass number request legal pending (by_zero pass number request refl) may
played options front (event.Publish endpoint revision table) back taken legal by_zero pending may =
    publish_played options front back taken endpoint revision table legal pending may
played options front (event.Blocked endpoint revision count) back taken legal by_zero pending may =
    blocked_played options front back taken endpoint revision count legal pending may

plays : (options : Options) (front back : List HistoryEvent) (taken : ℕ → Option Taken) → IsLegal options (front ++ back) → AreOfPassZero (front ++ back)
    → Pending options front back taken → (machine_from options (machine front taken) (steps_from options front back)).history ≡ front ++ back
plays options front [] taken legal by_zero pending = sym (append-nil front)
plays options front (new ∷ back) taken legal by_zero pending =
    let whole : front ++ new ∷ back ≡ (front ++ new ∷ []) ++ back = sym (append_assoc front (new ∷ []) back) in
    let legal_then = subst (λ (h : List HistoryEvent). IsLegal options h) whole legal in
    let here = played options front new back taken legal
    (λ pass number request same. by_zero.each (length front) pass number request (get_seam front new back ∙ ap Some same))
    pending (legal_last options front new (legal_front options (front ++ new ∷ []) back legal_then)) in
    ap (λ (m : Machine). m.history) (steps_append options (machine front taken) (steps_of options front new back) (steps_from options (front ++ new ∷ []) back))
    ∙ ap (λ (m : Machine). (machine_from options m (steps_from options (front ++ new ∷ []) back)).history) here.is
    ∙ plays options (front ++ new ∷ []) back here.now legal_then (subst AreOfPassZero whole by_zero) here.pending
    ∙ sym whole

pub played_all : (options : Options) (history : List HistoryEvent) → IsLegal options history → AreOfPassZero history
    → history_of_steps options (steps_from options [] history) ≡ history
played_all options history legal by_zero =
    plays options [] history (λ slot. None) legal by_zero (λ i endpoint revision row report early live. absurd (omega (arith, early)))

pub steps_for : (options : Options) (history : List HistoryEvent) → IsLegal options history → AreOfPassZero history → HasSteps options history
steps_for options history legal by_zero = record { steps = steps_from options [] history; give = played_all options history legal by_zero }
