-- Each step of the machine keeps its history legal.
use Rattle.std.proofs.Common.{◌≡◌, ◌≢◌, ℕ, ◌==◌, ◌<◌, ◌≤◌, ◌⊎◌, inl, inr, eqb, not, Bool, true, false, cond, List, [], ◌∷◌, ◌++◌, length, take, IfSome, Option, None, Some, option_map, refl, sym, ap, ◌∙◌, subst, arith, length-take}
use Rattle.std.proofs.lemmas.Bool.{cases_lt, eqb-true}
use Rattle.std.proofs.lemmas.Bool.Decides.{eqb_tells}
use Rattle.pol_mapkey.specs.Entries.{Entry as MapEntry}
use Rattle.pol_model.specs.Fault.{fault_of}
use Rattle.pol_model.specs.PolicyMap.{policy_map, map_size}
use Rattle.pol_model.specs.State.{State}
use Rattle.pol_model.specs.declared.answer.Fault.{Fault}
use Rattle.pol_model.specs.declared.options.Options.{Options}
use Rattle.pol_model.specs.declared.request.Request.{Request}
use Rattle.pol_model.specs.declared.row.Endpoint.{Endpoint}
use Rattle.pol_model.specs.FullRows.{fits_limit}
use Rattle.pol_model_laws.proofs.Membership.{find-In}
use Rattle.pol_history.specs.declared.event.EndpointId.{EndpointId}
use Rattle.pol_history.specs.declared.event.HistoryEvent.{HistoryEvent}
use Rattle.pol_history.specs.declared.event.HistoryEvent.TheVariants as event
use Rattle.pol_history.specs.declared.event.LastReport.{LastReport}
use Rattle.pol_history.specs.declared.machine.Event.{Event}
use Rattle.pol_history.specs.declared.machine.Event.TheVariants as step
use Rattle.pol_history.specs.Commits.{commits_in, live_endpoint, revision_of, same_endpoint, state_after, state_now}
use Rattle.pol_history.specs.Legal.{IsLegal}
use Rattle.pol_history.specs.Machine.{Machine, AreOfPassZero, HasSteps, Taken, commit_of, endpoint_id, endpoint_in, is_reported, machine_from, machine_start, report_table, report_taken, report_unless, step_commit, step_finish, step_of, step_take, taken_now, with_event, with_taken}
use Rattle.pol_history.specs.MachineKeeps.{IsSound, IsTaken}
use Rattle.pol_history.specs.MayFollow.{MayFollow, ReportMayFollow}
use Rattle.pol_history.specs.Reports.{last_report, published_before}
use Rattle.pol_history.proofs.Cuts.{revision-append, revision-take, state-cut, state-now}
use Rattle.pol_history.proofs.LastReports.{Tells, last_report-more, told}
use Rattle.pol_history.proofs.LegalEvents.{each_legal, legal_more}
use Rattle.pol_history.proofs.Lists.{get_cases}
use Rattle.pol_model_laws.proofs.Lives.{added-within}
use Rattle.pol_history.proofs.Lives.{lives-back, lives-then}
use Rattle.pol_history.proofs.Names.{slot-live}
use Rattle.pol_history.proofs.Same.{live-parts, same_cases}

-- ---- what a legal history knows of an endpoint's last report

-- its revision was committed before it
last_bounds : (options : Options) (history : List HistoryEvent) (endpoint : EndpointId) (last : Option LastReport) → IsLegal options history
    → Tells history endpoint last → IfSome last (λ l. (l.revision ≤ l.commits) × (l.commits ≤ revision_of history))
last_bounds options history endpoint None legal tells = tt
last_bounds options history endpoint (Some last) legal tells =
    let committed = legal.committed tells.place endpoint last.revision tells.report.report in
    (omega (arith, committed, tells.commits), omega (arith, tells.commits, revision-take tells.place history))

pub last-bounds : (options : Options) (history : List HistoryEvent) (endpoint : EndpointId) → IsLegal options history
    → IfSome (last_report endpoint history) (λ l. (l.revision ≤ l.commits) × (l.commits ≤ revision_of history))
last-bounds options history endpoint legal = last_bounds options history endpoint (last_report endpoint history) legal (told history endpoint)

-- ---- what was taken

-- an event that is no report of the endpoint leaves what was taken
taken_later : (options : Options) (history : List HistoryEvent) (new : HistoryEvent) (slot : ℕ) (taken : Taken)
    → last_report taken.endpoint (history ++ new ∷ []) ≡ last_report taken.endpoint history
    → IsTaken options history slot taken → IsTaken options (history ++ new ∷ []) slot taken
taken_later options history new slot taken same is = record {
  committed = omega (arith, is.committed, revision-append history (new ∷ []));
  row = is.row;
  live = subst (λ (s : State). live_endpoint taken.endpoint s ≡ Some is.row) (sym (state-cut options history (new ∷ []) taken.revision is.committed)) is.live;
  in_slot = is.in_slot;
  newer = subst (λ (o : Option LastReport). IfSome o (λ last. last.commits ≤ taken.revision)) (sym same) is.newer;
}

-- two slots have taken two endpoints
pub slots_apart : (options : Options) (history : List HistoryEvent) (slot other : ℕ) (a b : Taken) → IsTaken options history slot a → IsTaken options history other b
    → a.endpoint ≡ b.endpoint → slot ≡ other
slots_apart options history slot other a b first second same =
    let again : live_endpoint a.endpoint (state_after options history b.revision) ≡ Some second.row =
    subst (λ (e : EndpointId). live_endpoint e (state_after options history b.revision) ≡ Some second.row) (sym same) second.live in
    let one : first.row ≡ second.row = elim (cases_lt b.revision a.revision) [
      | inl earlier ↦
          let both = live-parts a.endpoint (state_after options history b.revision) second.row again in
          let within = added-within options (take b.revision (commits_in history)) a.endpoint.name second.row both.0 in
          let back = lives-back options history a.endpoint first.row b.revision a.revision (omega arith)
          (omega (arith, both.1, within.1, length-take b.revision (commits_in history))) first.live in
          (cc)
      | inr later ↦
          let both = live-parts a.endpoint (state_after options history a.revision) first.row first.live in
          let within = added-within options (take a.revision (commits_in history)) a.endpoint.name first.row both.0 in
          let back = lives-back options history a.endpoint second.row a.revision b.revision (omega arith)
          (omega (arith, both.1, within.1, length-take a.revision (commits_in history))) again in
          (cc)
    ] in
    sym first.in_slot ∙ ap (λ (r : Endpoint). r.slot) one ∙ second.in_slot

-- a report of another endpoint
passed_over : (a e : EndpointId) (report last : Option LastReport) → e ≢ a → cond (same_endpoint a e) report last ≡ last
passed_over a e report last differ = elim (same_cases a e) [ inl same ↦ absurd (differ (sym same.1)) | inr other ↦ rw (other.0) refl ]

-- ---- commit

zero_more : (history : List HistoryEvent) (new : HistoryEvent) → AreOfPassZero history
    → ((pass number : ℕ) (request : Request) → new ≡ event.Commit pass number request → pass ≡ 0) → AreOfPassZero (history ++ new ∷ [])
zero_more history new zero here = record {
  each = λ i pass number request there. elim (get_cases history new (event.Commit pass number request) i there) [
    | inl old ↦ zero.each i pass number request old.1
    | inr last ↦ here pass number request last.1
  ];
}

commit_keeps : (options : Options) (m : Machine) (request : Request) (fault : Option Fault) → fault_of (state_now options m.history) request ≡ fault
    → IsSound options m → IsSound options (step_commit options m request fault).1
commit_keeps options m request (Some fault) is sound = sound
commit_keeps options m request None is sound = record {
  legal = legal_more options m.history (commit_of m request) sound.legal (record { no_fault = is; next = refl });
  by_zero = zero_more m.history (commit_of m request) sound.by_zero (λ pass number other same. cc);
  taken = λ slot taken there.
      taken_later options m.history (commit_of m request) slot taken (last_report-more taken.endpoint m.history (commit_of m request)) (sound.taken slot taken there);
}

-- ---- take

newer_now : (last : Option LastReport) (n : ℕ) → IfSome last (λ l. (l.revision ≤ l.commits) × (l.commits ≤ n)) → IfSome last (λ l. l.commits ≤ n)
newer_now None n bounds = tt
newer_now (Some last) n bounds = bounds.1

taken_here : (options : Options) (history : List HistoryEvent) (slot : ℕ) (row : Endpoint) → IsLegal options history
    → endpoint_in slot (state_now options history).endpoints ≡ Some row → IsTaken options history slot (taken_now history row)
taken_here options history slot row legal is =
    let passes = (find-In (λ (r : Endpoint). r.slot == slot) row (state_now options history).endpoints is).1 in
    record {
      committed = omega arith;
      row = row;
      live = subst (λ (s : State). live_endpoint (endpoint_id row) s ≡ Some row) (sym (state-now options history)) (slot-live options history legal slot row is);
      in_slot = eqb-true row.slot slot passes;
      newer = newer_now (last_report (endpoint_id row) history) (revision_of history) (last-bounds options history (endpoint_id row) legal);
    }

-- what a slot has taken, where one slot's is replaced
retaken : (options : Options) (history : List HistoryEvent) (slot other : ℕ) (now was : Option Taken) (test : Bool) (taken : Taken) → (other == slot) ≡ test
    → (now ≡ Some taken → IsTaken options history slot taken) → (was ≡ Some taken → IsTaken options history other taken)
    → cond test now was ≡ Some taken → IsTaken options history other taken
retaken options history slot other now was true taken is new old there =
    subst (λ (n : ℕ). IsTaken options history n taken) (sym (eqb-true other slot is)) (new there)
retaken options history slot other now was false taken is new old there = old there

take_keeps : (options : Options) (m : Machine) (slot : ℕ) (found : Option Endpoint) → endpoint_in slot (state_now options m.history).endpoints ≡ found
    → IsSound options m → IsSound options (step_take m slot found).1
take_keeps options m slot None is sound = sound
take_keeps options m slot (Some row) is sound = record {
  legal = sound.legal;
  by_zero = sound.by_zero;
  taken = λ other taken there.
      retaken options m.history slot other (Some (taken_now m.history row)) (m.taken other) (other == slot) taken refl
      (λ same. subst (λ (t : Taken). IsTaken options m.history slot t) (cc) (taken_here options m.history slot row sound.legal is))
      (sound.taken other taken) there;
}

-- ---- finish

spent_keeps : (options : Options) (m : Machine) (slot : ℕ) → IsSound options m → IsSound options (with_taken slot None m)
spent_keeps options m slot sound = record {
  legal = sound.legal;
  by_zero = sound.by_zero;
  taken = λ other taken there.
      retaken options m.history slot other None (m.taken other) (other == slot) taken refl (λ none. absurd (cc)) (sound.taken other taken) there;
}

-- the last report is older than what was taken, where it isn't of the same revision
later_revision : (last : Option LastReport) (revision n : ℕ) → is_reported revision last ≡ false → IfSome last (λ l. (l.revision ≤ l.commits) × (l.commits ≤ n))
    → IfSome last (λ l. l.commits ≤ revision) → IfSome last (λ l. l.revision < revision)
later_revision None revision n other bounds newer = tt
later_revision (Some last) revision n other bounds newer =
    elim (eqb_tells last.revision revision) [
      | inl same ↦ absurd (let no : true ≡ false = sym same.0 ∙ other in cc)
      | inr differ ↦ elim (cases_lt last.revision revision) [
        | inl less ↦ less
        | inr more ↦ absurd (differ.1 (omega (arith, bounds.0)))
      ]
    ]

module _ (options : Options) (m : Machine) (sound : IsSound options m) (slot : ℕ) (taken : Taken) (is_taken : IsTaken options m.history slot taken)
    (row : Endpoint) (live : live_endpoint taken.endpoint (state_now options m.history) ≡ Some row) where
  added_before : taken.endpoint.added ≤ taken.revision
  added_before =
      let both = live-parts taken.endpoint (state_after options m.history taken.revision) is_taken.row is_taken.live in
      let within = added-within options (take taken.revision (commits_in m.history)) taken.endpoint.name is_taken.row both.0 in
      omega (arith, both.1, within.1, length-take taken.revision (commits_in m.history))

  may_report : is_reported taken.revision (last_report taken.endpoint m.history) ≡ false → ReportMayFollow options m.history taken.endpoint taken.revision
  may_report other = record {
    live = record { row = row; found = live };
    committed = is_taken.committed;
    since_added = added_before;
    newer = later_revision (last_report taken.endpoint m.history) taken.revision (revision_of m.history) other
        (last-bounds options m.history taken.endpoint sound.legal) is_taken.newer;
    no_older_commits = is_taken.newer;
  }

  live_then : live_endpoint taken.endpoint (state_after options m.history taken.revision) ≡ Some row
  live_then = lives-then options m.history taken.endpoint row taken.revision is_taken.committed added_before live

  -- the machine after a report of what was taken
  reported_keeps : (new : HistoryEvent) → MayFollow options m.history new
      → ((pass number : ℕ) (request : Request) → new ≡ event.Commit pass number request → pass ≡ 0)
      → ((other : EndpointId) → other ≢ taken.endpoint → last_report other (m.history ++ new ∷ []) ≡ last_report other m.history)
      → IsSound options (with_event new (with_taken slot None m))
  reported_keeps new may zero others = record {
    legal = legal_more options m.history new sound.legal may;
    by_zero = zero_more m.history new sound.by_zero zero;
    taken = λ other its there. others_keep other its there (eqb_tells other slot);
  }
    where
      others_keep : (other : ℕ) (its : Taken) → (with_taken slot None m).taken other ≡ Some its
          → ((eqb other slot ≡ true) × (other ≡ slot)) ⊎ ((eqb other slot ≡ false) × (other ≢ slot)) → IsTaken options (m.history ++ new ∷ []) other its
      others_keep other its there (inl same) = absurd (let none : None ≡ Some its = (rw same.0 at there) in cc)
      others_keep other its there (inr differ) =
          let kept : m.taken other ≡ Some its = (rw differ.0 at there) in
          let is = sound.taken other its kept in
          taken_later options m.history new other its
          (others its.endpoint (λ same. differ.1 (slots_apart options m.history other slot its taken is is_taken same))) is

  -- the map is published or blocked, as it fits
  table_keeps : (table : List MapEntry) (b : Bool) → fits_limit options.map_max (length table) ≡ b
      → policy_map options (state_after options m.history taken.revision) row ≡ table
      → is_reported taken.revision (last_report taken.endpoint m.history) ≡ false
      → IsSound options (report_table options (with_taken slot None m) taken table b).1
  table_keeps table true fits is other =
      reported_keeps (event.Publish taken.endpoint taken.revision table)
      (record {
        report = may_report other;
        canonical = ap (option_map (policy_map options (state_after options m.history taken.revision))) live_then ∙ ap Some is;
        fits = fits;
      })
      (λ pass number request same. absurd (cc))
      (λ endpoint differ. last_report-more endpoint m.history (event.Publish taken.endpoint taken.revision table) ∙ passed_over taken.endpoint endpoint (Some (record { revision = taken.revision; commits = revision_of m.history; published = Some taken.revision })) (last_report endpoint m.history) differ)
  table_keeps table false fits is other =
      reported_keeps (event.Blocked taken.endpoint taken.revision (length table))
      (record {
        report = may_report other;
        size = ap (option_map (map_size options (state_after options m.history taken.revision))) live_then ∙ ap (λ (t : List MapEntry). Some (length t)) is;
        too_many = ap not fits;
      })
      (λ pass number request same. absurd (cc))
      (λ endpoint differ. last_report-more endpoint m.history (event.Blocked taken.endpoint taken.revision (length table)) ∙ passed_over taken.endpoint endpoint (Some (record { revision = taken.revision; commits = revision_of m.history; published = published_before (last_report endpoint m.history) })) (last_report endpoint m.history) differ)

  reported_or_not : (test : Bool) → is_reported taken.revision (last_report taken.endpoint m.history) ≡ test
      → IsSound options
      (report_unless options (with_taken slot None m) taken (policy_map options (state_after options m.history taken.revision) row) test).1
  reported_or_not true is = spent_keeps options m slot sound
  reported_or_not false is =
      let table = policy_map options (state_after options m.history taken.revision) row in
      table_keeps table (fits_limit options.map_max (length table)) refl refl is

live_keeps : (options : Options) (m : Machine) (slot : ℕ) (taken : Taken) (found : Option Endpoint) → IsSound options m → IsTaken options m.history slot taken
    → live_endpoint taken.endpoint (state_now options m.history) ≡ found → IsSound options (report_taken options (with_taken slot None m) taken found).1
live_keeps options m slot taken None sound is_taken live = spent_keeps options m slot sound
live_keeps options m slot taken (Some row) sound is_taken live =
    reported_or_not options m sound slot taken is_taken row live (is_reported taken.revision (last_report taken.endpoint m.history)) refl

finish_keeps : (options : Options) (m : Machine) (slot : ℕ) (found : Option Taken) → m.taken slot ≡ found → IsSound options m
    → IsSound options (step_finish options m slot found).1
finish_keeps options m slot None is sound = sound
finish_keeps options m slot (Some taken) is sound =
    live_keeps options m slot taken (live_endpoint taken.endpoint (state_now options m.history)) sound (sound.taken slot taken is) refl

-- ---- steps

pub step_keeps : (options : Options) (m : Machine) (next : Event) → IsSound options m → IsSound options (step_of options m next).1
step_keeps options m (step.Commit request) sound = commit_keeps options m request (fault_of (state_now options m.history) request) refl sound
step_keeps options m (step.Take slot) sound = take_keeps options m slot (endpoint_in slot (state_now options m.history).endpoints) refl sound
step_keeps options m (step.Finish slot) sound = finish_keeps options m slot (m.taken slot) refl sound
step_keeps options m (step.Look query) sound = sound

pub steps_keep : (options : Options) (m : Machine) (steps : List Event) → IsSound options m → IsSound options (machine_from options m steps)
steps_keep options m [] sound = sound
steps_keep options m (next ∷ later) sound = steps_keep options (step_of options m next).1 later (step_keeps options m next sound)

pub start_sound : (options : Options) → IsSound options machine_start
start_sound options = record {
  legal = each_legal options [] tt;
  by_zero = record { each = λ i pass number request there. absurd (cc) };
  taken = λ slot taken there. absurd (cc);
}

-- a history that steps give is legal
pub steps_legal : (options : Options) (history : List HistoryEvent) → HasSteps options history → IsLegal options history × AreOfPassZero history
steps_legal options history given =
    let sound = steps_keep options machine_start given.steps (start_sound options) in
    (subst (λ (h : List HistoryEvent). IsLegal options h) given.give sound.legal, subst AreOfPassZero given.give sound.by_zero)
