-- A commit of the parts is one of the machine.
use Rattle.std.proofs.Common.{◌≡◌, ℕ, ◌+◌, List, [], ◌∷◌, ◌++◌, length, Option, None, Some, Result, Ok, Err, refl, sym, ap, ◌∙◌, subst, bytes_eq}
use Rattle.pol_model.specs.After.{after}
use Rattle.pol_model.specs.Committed.{committed_of}
use Rattle.pol_model.specs.Fault.{fault_of}
use Rattle.pol_model.specs.State.{State}
use Rattle.pol_model.specs.declared.answer.Committed.{Committed}
use Rattle.pol_model.specs.declared.answer.Fault.{Fault}
use Rattle.pol_model.specs.declared.answer.Refused.{Refused}
use Rattle.pol_model.specs.declared.options.Options.{Options}
use Rattle.pol_model.specs.declared.request.Request.{Request}
use Rattle.pol_model.specs.declared.request.Request.TheVariants.{AddEndpoint, RemoveEndpoint, AddIdentity, RemoveIdentity, Apply, Remove, SetMode}
use Rattle.pol_model.proofs.Histories.{state_of-revision}
use Rattle.pol_history.specs.declared.event.HistoryEvent.{HistoryEvent}
use Rattle.pol_history.specs.declared.machine.Event.TheVariants as step
use Rattle.pol_history.specs.declared.machine.Reply.{Reply}
use Rattle.pol_history.specs.declared.machine.Reply.TheVariants as reply
use Rattle.pol_history.specs.Commits.{commits_by, commits_in, revision_of, state_now}
use Rattle.pol_history.specs.Content.{Content, content_of, live_after}
use Rattle.pol_history.specs.Machine.{Machine, Stepped, commit_of, step_commit, with_event}
use Rattle.pol_history.specs.MachineKeeps.{IsSound}
use Rattle.pol_history.proofs.Beginnings.{prefix_more}
use Rattle.pol_history.proofs.Contents.{content-commits, content-more}
use Rattle.pol_history.proofs.Steps.{step_keeps}
use Rattle.pol_repo.specs.Repository.{Repository}
use Rattle.pol_machine.specs.Parts.{Commits, WasCommitted}
use Rattle.pol_machine.specs.Rows.{RowsOf, live_held, new_row, row_held, rows_after}
use Rattle.pol_machine.specs.Stands.{Kept, StandsFor, Steps, options_of}
use Rattle.pol_repo_history.proofs.AtHistory.{at_commit, revision_at, state_at}
use Rattle.pol_machine.proofs.Choices.{if_mapped}
use Rattle.pol_machine.proofs.RowsKept.{found_after, rows_same, take_later, works_later}

-- the content after a request
held_after : (revision : ℕ) (request : Request) (rows : RowsOf) (name : List ℕ)
    → live_held (rows_after revision request rows) name ≡ live_after revision (live_held rows) request name
held_after revision (AddEndpoint added labels address) rows name = if_mapped row_held (bytes_eq added name) (Some (new_row revision)) (rows name)
held_after revision (RemoveEndpoint gone) rows name = if_mapped row_held (bytes_eq gone name) None (rows name)
held_after revision (AddIdentity added labels) rows name = refl
held_after revision (RemoveIdentity gone) rows name = refl
held_after revision (Apply policy) rows name = refl
held_after revision (Remove key) rows name = refl
held_after revision (SetMode mode) rows name = refl

module _ (k : Kept) (m : Machine) (stands : StandsFor k m) (request : Request) where
  abbrev options : Options
  options = options_of k

  abbrev history : List HistoryEvent
  history = m.history

  -- what is kept after the commit
  abbrev committed : Kept
  committed = record k {
    repo = record k.repo { journal = k.repo.journal ++ request ∷ []; prepared = None };
    rows = rows_after (revision_of history + 1) request k.rows;
  }

  commit_stands : fault_of (state_now options history) request ≡ None → StandsFor committed (with_event (commit_of m request) m)
  commit_stands none = record {
    few = stands.few;
    sound = subst (λ (s : Stepped). IsSound options s.1) (ap (step_commit options m request) none) (step_keeps options m (step.Commit request) stands.sound);
    at = at_commit options history k.repo stands.at 0 (length (commits_by 0 history)) request;
    live = λ name.
        held_after (revision_of history + 1) request k.rows name
        ∙ (λ i. live_after (revision_of history + 1) (λ n. stands.live n i) request name)
        ∙ ap (λ (n : ℕ). live_after (n + 1) (content_of options history).live request name) (sym (content-commits options history))
        ∙ ap (λ (c : Content). c.live name) (sym (content-more options history (commit_of m request)));
    works =
        works_later options history (history ++ commit_of m request ∷ []) k.rows (rows_after (revision_of history + 1) request k.rows)
        (prefix_more history (commit_of m request ∷ [])) (found_after (revision_of history + 1) request k.rows) stands.works;
    taken = stands.taken;
    takes = λ slot taken there.
        take_later options history (history ++ commit_of m request ∷ []) k.rows (rows_after (revision_of history + 1) request k.rows) slot taken
        (prefix_more history (commit_of m request ∷ []))
        (λ row found added. found_after (revision_of history + 1) request k.rows taken.endpoint.name row found) (stands.takes slot taken there);
  }

  accepted : (E : Type 0) (new : Repository) (later : RowsOf) (done : Committed) → WasCommitted k.repo new k.rows later request done
      → Steps {E = E} options m (step.Commit request) (record k { repo = new; rows = later }) (Ok (reply.Committed done))
  accepted E new later done was =
      let state = state_at options history k.repo stands.at in
      let none : fault_of (state_now options history) request ≡ None = ap (λ (s : State). fault_of s request) (sym state) ∙ was.no_fault in
      let answer : done ≡ committed_of (after (state_now options history) request) request =
      was.answer ∙ ap (λ (s : State). committed_of (after s request) request) state in
      let revision : done.revision ≡ revision_of history + 1 =
      ap (λ (d : Committed). d.revision) answer ∙ ap (λ (n : ℕ). n + 1) (state_of-revision options (commits_in history)) in
      let rows : later ≡ rows_after (revision_of history + 1) request k.rows =
      (λ i. λ name. was.rows_are name i) ∙ ap (λ (n : ℕ). rows_after n request k.rows) revision in
      let whole : committed ≡ record k { repo = new; rows = later } = λ i. record k { repo = sym was.repo i; rows = sym rows i } in
      subst (λ (k2 : Kept). Steps {E = E} options m (step.Commit request) k2 (Ok (reply.Committed done))) whole
      (subst (λ (f : Option Fault). (reply.Committed done ≡ (step_commit options m request f).0) × StandsFor committed (step_commit options m request f).1) (sym none)
      (ap reply.Committed answer, commit_stands none))

  -- nothing has changed
  same_parts : (new : Repository) (later : RowsOf) → new ≡ k.repo → later ≡ k.rows → k ≡ record k { repo = new; rows = later }
  same_parts new later repo rows = λ i. record k { repo = sym repo i; rows = sym rows i }

  refused_so : (E : Type 0) (new : Repository) (later : RowsOf) (refused : Refused)
      → Commits {E = E} k.repo new k.rows later request (Ok (reply.Refused refused))
      → Steps {E = E} options m (step.Commit request) (record k { repo = new; rows = later }) (Ok (reply.Refused refused))
  refused_so E new later refused was =
      let state = state_at options history k.repo stands.at in
      let some : fault_of (state_now options history) request ≡ Some refused.fault = ap (λ (s : State). fault_of s request) (sym state) ∙ was.0.fault in
      let revision : refused.revision ≡ revision_of history = was.0.revision ∙ revision_at options history k.repo stands.at in
      subst (λ (k2 : Kept). Steps {E = E} options m (step.Commit request) k2 (Ok (reply.Refused refused))) (same_parts new later was.1 (rows_same k.rows later was.2))
      (subst (λ (f : Option Fault). (reply.Refused refused ≡ (step_commit options m request f).0) × StandsFor k (step_commit options m request f).1) (sym some)
      (ap (λ (n : ℕ). reply.Refused (record { revision = n; fault = refused.fault })) revision, stands))

  pub commit_steps : {E : Type 0} (new : Repository) (later : RowsOf) (result : Result Reply E) → Commits k.repo new k.rows later request result
      → Steps options m (step.Commit request) (record k { repo = new; rows = later }) result
  commit_steps {E} new later (Ok (reply.Committed done)) was = accepted E new later done was
  commit_steps {E} new later (Ok (reply.Refused refused)) was = refused_so E new later refused was
  commit_steps {E} new later (Ok (reply.Took r)) was = absurd was
  commit_steps {E} new later (Ok reply.Gone) was = absurd was
  commit_steps {E} new later (Ok reply.Idle) was = absurd was
  commit_steps {E} new later (Ok (reply.Already r)) was = absurd was
  commit_steps {E} new later (Ok (reply.Full r n)) was = absurd was
  commit_steps {E} new later (Ok (reply.Published r)) was = absurd was
  commit_steps {E} new later (Ok (reply.Verdict r word)) was = absurd was
  commit_steps {E} new later (Ok (reply.NoEndpoint r)) was = absurd was
  commit_steps {E} new later (Ok (reply.NotYet r)) was = absurd was
  commit_steps {E} new later (Err error) was =
      subst (λ (k2 : Kept). StandsFor k2 m) (same_parts new later was.0 (rows_same k.rows later was.1)) stands
