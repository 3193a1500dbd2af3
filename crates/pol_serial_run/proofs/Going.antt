-- How a serial run goes on, line by line, and what it accepts.
use Rattle.std.proofs.Common.{◌≡◌, ℕ, ◌+◌, List, [], ◌∷◌, ◌++◌, length, Option, None, Some, Ok, Err, refl, sym, ap, ◌∙◌, subst, arith, append-nil, append_assoc, length-append}
use Rattle.pol_answer.specs.declared.answer.Answer.{Answer}
use Rattle.pol_answer.specs.declared.answer.Answer.TheVariants as answer
use Rattle.pol_history.specs.Commits.{commits_in, state_now}
use Rattle.pol_history.specs.Look.{Looked, NoEndpoint, NotYet, Found, look}
use Rattle.pol_history.specs.Machine.{Machine, commit_of, step_commit}
use Rattle.pol_history.proofs.Cuts.{commits-append}
use Rattle.pol_model.specs.Explain.{explain_of}
use Rattle.pol_model.specs.Fault.{fault_of}
use Rattle.pol_model.specs.State.{State}
use Rattle.pol_model.specs.declared.answer.Fault.{Fault}
use Rattle.pol_model.specs.declared.answer.Trace.{Trace}
use Rattle.pol_model.specs.declared.options.Options.{Options}
use Rattle.pol_model.specs.declared.request.Request.{Request}
use Rattle.pol_run.specs.Serial.{answer_to_commit, answer_with_trace, state_committed}
use Rattle.pol_run.specs.Spots.{Reading, phase_after}
use Rattle.pol_script.specs.declared.command.Command.TheVariants as command
use Rattle.pol_serial_run.specs.Accepted.{accepted_by, accepted_from, ok_lines, one_if_ok, unless_fault}
use Rattle.pol_serial_run.specs.SerialRun.{IsLineAnswer, IsSerialFrom, IsSyncAnswer, answer_looked, machine_after_lines, machine_then, phase_after_lines}
use Rattle.pol_serial_run.proofs.Commits.{turns_same}

module _ (options : Options) where
  -- ---- one line more

  pub serial_more : (m : Machine) (phase : ℕ) (readings : List Reading) (answers : List Answer) (reading : Reading) (told : Answer)
      → IsSerialFrom options m phase readings answers
      → IsLineAnswer options (machine_after_lines options m readings) (phase_after_lines phase readings) reading told
      → IsSerialFrom options m phase (readings ++ reading ∷ []) (answers ++ told ∷ [])
  serial_more m phase [] [] reading told so_far here = (here, tt)
  serial_more m phase [] (a ∷ more) reading told so_far here = absurd so_far
  serial_more m phase (r ∷ rs) [] reading told so_far here = absurd so_far
  serial_more m phase (r ∷ rs) (a ∷ more) reading told so_far here =
      (so_far.0, serial_more (machine_then options m r) (phase_after phase r) rs more reading told so_far.1 here)

  pub machine_more : (m : Machine) (readings : List Reading) (reading : Reading)
      → machine_after_lines options m (readings ++ reading ∷ []) ≡ machine_then options (machine_after_lines options m readings) reading
  machine_more m [] reading = refl
  machine_more m (r ∷ rs) reading = machine_more (machine_then options m r) rs reading

  pub accepted_both : (m : Machine) (front back : List Reading)
      → accepted_from options m (front ++ back) ≡ accepted_from options m front ++ accepted_from options (machine_after_lines options m front) back
  accepted_both m [] back = refl
  accepted_both m (r ∷ rs) back =
      ap (λ (more : List Request). accepted_by options m r ++ more) (accepted_both (machine_then options m r) rs back)
      ∙ sym (append_assoc (accepted_by options m r) (accepted_from options (machine_then options m r) rs)
      (accepted_from options (machine_after_lines options (machine_then options m r) rs) back))

  pub accepted_more : (m : Machine) (readings : List Reading) (reading : Reading)
      → accepted_from options m (readings ++ reading ∷ []) ≡ accepted_from options m readings ++ accepted_by options (machine_after_lines options m readings) reading
  accepted_more m readings reading =
      accepted_both m readings (reading ∷ [])
      ∙ ap (λ (more : List Request). accepted_from options m readings ++ more) (append-nil (accepted_by options (machine_after_lines options m readings) reading))

  -- ---- what the machine has committed

  commit_more : (m : Machine) (request : Request) (fault : Option Fault)
      → commits_in (step_commit options m request fault).1.history ≡ commits_in m.history ++ unless_fault request fault
  commit_more m request None = commits-append m.history (commit_of m request ∷ [])
  commit_more m request (Some fault) = sym (append-nil (commits_in m.history))

  pub commits_then : (m : Machine) (reading : Reading) → commits_in (machine_then options m reading).history ≡ commits_in m.history ++ accepted_by options m reading
  commits_then m (Err fault) = sym (append-nil (commits_in m.history))
  commits_then m (Ok (command.Commit session request)) = commit_more m request (fault_of (state_now options m.history) request)
  commits_then m (Ok (command.Look session query)) = sym (append-nil (commits_in m.history))
  commits_then m (Ok (command.Trace session query)) = sym (append-nil (commits_in m.history))
  commits_then m (Ok (command.Sync session)) =
      turns_same options m (state_now options m.history).endpoints ∙ sym (append-nil (commits_in m.history))
  commits_then m (Ok command.Phase) = sym (append-nil (commits_in m.history))

  pub commits_after : (m : Machine) (readings : List Reading)
      → commits_in (machine_after_lines options m readings).history ≡ commits_in m.history ++ accepted_from options m readings
  commits_after m [] = sym (append-nil (commits_in m.history))
  commits_after m (r ∷ rs) =
      commits_after (machine_then options m r) rs
      ∙ ap (λ (front : List Request). front ++ accepted_from options (machine_then options m r) rs) (commits_then m r)
      ∙ append_assoc (commits_in m.history) (accepted_by options m r) (accepted_from options (machine_then options m r) rs)

  -- ---- as many as `ok` lines

  ok_commit : (s next : State) (request : Request) (fault : Option Fault)
      → one_if_ok (answer_to_commit s next request fault) ≡ length (unless_fault request fault)
  ok_commit s next request None = refl
  ok_commit s next request (Some fault) = refl

  ok_looked : (looked : Looked) → one_if_ok (answer_looked looked) ≡ 0
  ok_looked (NoEndpoint revision) = refl
  ok_looked (NotYet revision) = refl
  ok_looked (Found revision word) = refl

  ok_traced : (s : State) (trace : Option Trace) → one_if_ok (answer_with_trace s trace) ≡ 0
  ok_traced s None = refl
  ok_traced s (Some trace) = refl

  ok_synced : (m : Machine) (told : Answer) → IsSyncAnswer options m told → one_if_ok told ≡ 0
  ok_synced m (answer.Committed revision identity) is = absurd is
  ok_synced m (answer.Synced revision full) is = refl
  ok_synced m (answer.Phase number) is = refl
  ok_synced m (answer.Verdict revision word) is = refl
  ok_synced m (answer.NoEndpoint revision) is = refl
  ok_synced m (answer.NotYet revision) is = refl
  ok_synced m (answer.Traced revision trace) is = refl
  ok_synced m (answer.BadLine fault) is = refl
  ok_synced m (answer.Refused refused) is = refl

  ok_line : (m : Machine) (phase : ℕ) (reading : Reading) (told : Answer) → IsLineAnswer options m phase reading told
      → one_if_ok told ≡ length (accepted_by options m reading)
  ok_line m phase (Err fault) told is = ap one_if_ok is
  ok_line m phase (Ok (command.Commit session request)) told is =
      let s = state_now options m.history in
      ap one_if_ok is ∙ ok_commit s (state_committed s request) request (fault_of s request)
  ok_line m phase (Ok (command.Look session query)) told is = ap one_if_ok is ∙ ok_looked (look options m.history query)
  ok_line m phase (Ok (command.Trace session query)) told is =
      let s = state_now options m.history in
      ap one_if_ok is ∙ ok_traced s (explain_of options s query)
  ok_line m phase (Ok (command.Sync session)) told is = ok_synced m told is
  ok_line m phase (Ok command.Phase) told is = ap one_if_ok is

  pub ok_as_many : (m : Machine) (phase : ℕ) (readings : List Reading) (answers : List Answer) → IsSerialFrom options m phase readings answers
      → ok_lines answers ≡ length (accepted_from options m readings)
  ok_as_many m phase [] [] is = refl
  ok_as_many m phase [] (a ∷ more) is = absurd is
  ok_as_many m phase (r ∷ rs) [] is = absurd is
  ok_as_many m phase (r ∷ rs) (a ∷ more) is =
      let here = ok_line m phase r a is.0 in
      let later = ok_as_many (machine_then options m r) (phase_after phase r) rs more is.1 in
      omega (arith, here, later, length-append (accepted_by options m r) (accepted_from options (machine_then options m r) rs))

pub phase_more : (phase : ℕ) (readings : List Reading) (reading : Reading)
    → phase_after_lines phase (readings ++ reading ∷ []) ≡ phase_after (phase_after_lines phase readings) reading
phase_more phase [] reading = refl
phase_more phase (r ∷ rs) reading = phase_more (phase_after phase r) rs reading
