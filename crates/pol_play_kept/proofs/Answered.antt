-- A commit is answered, and the phase after each answer.
use Rattle.std.proofs.Common.{◌≡◌, ℕ, ◌+◌, List, [], ◌∷◌, Bool, true, false, IfOk, Option, None, Some, Result, Ok, Err, refl, sym, ap, ◌∙◌, subst}
use Rattle.pol_answer.specs.declared.answer.Answer.{Answer}
use Rattle.pol_answer.specs.declared.answer.Answer.TheVariants as answer
use Rattle.pol_history.specs.declared.machine.Event.TheVariants as step
use Rattle.pol_history.specs.declared.machine.Reply.{Reply}
use Rattle.pol_history.specs.declared.machine.Reply.TheVariants as reply
use Rattle.pol_history.specs.Commits.{revision_of, state_now}
use Rattle.pol_history.specs.Look.{Looked, NoEndpoint, NotYet, Found, look}
use Rattle.pol_history.specs.Machine.{Machine, step_commit, step_of}
use Rattle.pol_kept.specs.Keeps.{Commits, Replies}
use Rattle.pol_kept.specs.declared.error.KeptError.{KeptError}
use Rattle.pol_kept.specs.declared.error.KeptError.TheVariants as kept
use Rattle.pol_machine.specs.Stands.{Stands, Stored}
use Rattle.pol_model.specs.After.{after}
use Rattle.pol_model.specs.Committed.{committed_of}
use Rattle.pol_model.specs.Explain.{explain_of}
use Rattle.pol_model.specs.Fault.{fault_of}
use Rattle.pol_model.specs.State.{State}
use Rattle.pol_model.specs.declared.answer.Committed.{Committed}
use Rattle.pol_model.specs.declared.answer.Fault.{Fault}
use Rattle.pol_model.specs.declared.answer.Refused.{Refused}
use Rattle.pol_model.specs.declared.answer.Trace.{Trace}
use Rattle.pol_model.specs.declared.options.Options.{Options}
use Rattle.pol_model.specs.declared.request.Request.{Request}
use Rattle.pol_run.specs.Serial.{answer_to_commit, answer_with_trace, commit_answer, state_committed, state_with}
use Rattle.pol_run.specs.Spots.{Reading, phase_after}
use Rattle.pol_script.specs.declared.command.Command.TheVariants as command
use Rattle.pol_serial_run.specs.Accepted.{unless_fault}
use Rattle.pol_serial_run.specs.SerialRun.{IsLineAnswer, IsSyncAnswer, answer_looked}
use Rattle.pol_serial_run.proofs.Commits.{revision_now}
use Rattle.pol_play_kept.specs.Answering.{phase_told}

-- ---- commits

-- what is kept of a reply to a commit
abbrev committed_in : Committed → Reply → Committed
committed_in other (reply.Committed done) = done
committed_in other _ = other

abbrev refused_in : Refused → Reply → Refused
refused_in other (reply.Refused refused) = refused
refused_in other _ = other

abbrev is_committed : Reply → Bool
is_committed (reply.Committed done) = true
is_committed _ = false

module _ (options : Options) (m : Machine) (request : Request) where
  abbrev s : State
  s = state_now options m.history

  told_done : (fault : Option Fault) (done : Committed) → (step_commit options m request fault).0 ≡ reply.Committed done
      → answer.Committed done.revision done.identity ≡ answer_to_commit s (state_with s request fault) request fault
  told_done None done said =
      ap (λ (d : Committed). answer.Committed d.revision d.identity) (sym (ap (committed_in done) said))
  told_done (Some fault) done said = absurd (let no : false ≡ true = ap is_committed said in cc)

  none_done : (fault : Option Fault) (done : Committed) → (step_commit options m request fault).0 ≡ reply.Committed done → fault ≡ None
  none_done None done said = refl
  none_done (Some fault) done said = absurd (let no : false ≡ true = ap is_committed said in cc)

  told_refused : (fault : Option Fault) (refused : Refused) → (step_commit options m request fault).0 ≡ reply.Refused refused
      → answer.Refused refused ≡ answer_to_commit s (state_with s request fault) request fault
  told_refused None refused said = absurd (let no : true ≡ false = ap is_committed said in cc)
  told_refused (Some fault) refused said =
      ap answer.Refused (sym (ap (refused_in refused) said))
      ∙ ap (λ (n : ℕ). answer.Refused (record { revision = n; fault = fault })) (sym (revision_now options m.history))

  refused_by : (fault : Option Fault) (refused : Refused) → (step_commit options m request fault).0 ≡ reply.Refused refused → unless_fault request fault ≡ []
  refused_by None refused said = absurd (let no : true ≡ false = ap is_committed said in cc)
  refused_by (Some fault) refused said = refl

  pub done_told : (done : Committed) (new : Stored) → Replies options m request (reply.Committed done) new
      → answer.Committed done.revision done.identity ≡ commit_answer s request
  done_told done new replies = told_done (fault_of s request) done (sym replies.said_so)

  pub done_no_fault : (done : Committed) (new : Stored) → Replies options m request (reply.Committed done) new → fault_of s request ≡ None
  done_no_fault done new replies = none_done (fault_of s request) done (sym replies.said_so)

  pub refused_told : (refused : Refused) (new : Stored) → Replies options m request (reply.Refused refused) new
      → answer.Refused refused ≡ commit_answer s request
  refused_told refused new replies = told_refused (fault_of s request) refused (sym replies.said_so)

  -- a refused request isn't accepted
  pub refused_none : (refused : Refused) (new : Stored) → Replies options m request (reply.Refused refused) new → unless_fault request (fault_of s request) ≡ []
  refused_none refused new replies = refused_by (fault_of s request) refused (sym replies.said_so)

-- ---- phases

phase_commit : (s next : State) (request : Request) (fault : Option Fault) (phase : ℕ) → phase_told phase (answer_to_commit s next request fault) ≡ phase
phase_commit s next request None phase = refl
phase_commit s next request (Some fault) phase = refl

phase_looked : (looked : Looked) (phase : ℕ) → phase_told phase (answer_looked looked) ≡ phase
phase_looked (NoEndpoint revision) phase = refl
phase_looked (NotYet revision) phase = refl
phase_looked (Found revision word) phase = refl

phase_traced : (s : State) (trace : Option Trace) (phase : ℕ) → phase_told phase (answer_with_trace s trace) ≡ phase
phase_traced s None phase = refl
phase_traced s (Some trace) phase = refl

phase_synced : (options : Options) (m : Machine) (told : Answer) (phase : ℕ) → IsSyncAnswer options m told → phase_told phase told ≡ phase
phase_synced options m (answer.Committed revision identity) phase is = refl
phase_synced options m (answer.Synced revision full) phase is = refl
phase_synced options m (answer.Phase number) phase is = absurd is
phase_synced options m (answer.Verdict revision word) phase is = refl
phase_synced options m (answer.NoEndpoint revision) phase is = refl
phase_synced options m (answer.NotYet revision) phase is = refl
phase_synced options m (answer.Traced revision trace) phase is = refl
phase_synced options m (answer.BadLine fault) phase is = refl
phase_synced options m (answer.Refused refused) phase is = refl

pub phase_line : (options : Options) (m : Machine) (phase : ℕ) (reading : Reading) (told : Answer) → IsLineAnswer options m phase reading told
    → phase_told phase told ≡ phase_after phase reading
phase_line options m phase (Err fault) told is = ap (phase_told phase) is
phase_line options m phase (Ok (command.Commit session request)) told is =
    let s = state_now options m.history in
    ap (phase_told phase) is ∙ phase_commit s (state_committed s request) request (fault_of s request) phase
phase_line options m phase (Ok (command.Look session query)) told is =
    ap (phase_told phase) is ∙ phase_looked (look options m.history query) phase
phase_line options m phase (Ok (command.Trace session query)) told is =
    let s = state_now options m.history in
    ap (phase_told phase) is ∙ phase_traced s (explain_of options s query) phase
phase_line options m phase (Ok (command.Sync session)) told is = phase_synced options m told phase is
phase_line options m phase (Ok command.Phase) told is = ap (phase_told phase) is
