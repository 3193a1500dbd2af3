-- What the line of a request leaves, by what its commit answers.
use Rattle.std.proofs.Common.{◌≡◌, ◌⊎◌, inl, inr, ℕ, Bool, true, false, List, [], ◌∷◌, ◌++◌, IsErrOf, Option, None, Some, Result, Ok, Err, refl, sym, ap, ◌∙◌, subst}
use Rattle.pol_answer.specs.declared.answer.Answer.{Answer}
use Rattle.pol_answer.specs.declared.answer.Answer.TheVariants as answer
use Rattle.pol_disk.specs.Images.{LeavesOnly}
use Rattle.pol_history.specs.declared.machine.Reply.TheVariants as reply
use Rattle.pol_history.specs.Commits.{state_now}
use Rattle.pol_history.specs.Machine.{Machine}
use Rattle.pol_journal.specs.Journal.{IsJournalOrOneMore}
use Rattle.pol_kept.specs.Keeps.{IsKept, Replies, requests_in}
use Rattle.pol_machine.specs.Stands.{Stands, Stored, options_in}
use Rattle.pol_model.specs.Fault.{fault_of}
use Rattle.pol_model.specs.declared.answer.Committed.{Committed}
use Rattle.pol_model.specs.declared.answer.Refused.{Refused}
use Rattle.pol_model.specs.declared.options.Options.{Options}
use Rattle.pol_model.specs.declared.request.Request.{Request}
use Rattle.pol_run.specs.Spots.{Reading}
use Rattle.pol_script.specs.declared.command.Command.TheVariants as command
use Rattle.pol_serial_run.specs.Accepted.{unless_fault}
use Rattle.pol_play_kept.specs.Answering.{PlaysLine}
use Rattle.pol_play_kept.specs.declared.line.Stopped.{Stopped}
use Rattle.pol_play_kept.specs.declared.line.Stopped.TheVariants.{Disk as DiskFailed, Memory as NoMemory}
use Rattle.pol_play_kept.proofs.Answered.{done_no_fault, done_told, refused_told}
use Rattle.pol_play_kept.proofs.Kept.{nothing_done_at, one_accepted}

abbrev done : Answer → Result Answer Stopped
done told = Ok told

abbrev failed : Stopped → Result Answer Stopped
failed why = Err why

abbrev no_line : Stopped → Result (Unit {0}) Stopped
no_line why = Err why

pub same_error : (one other : Stopped) → no_line one ≡ no_line other → failed one ≡ failed other
same_error one other same = cc

pub no_err : (told : Answer) (why : Stopped) → done told ≡ failed why → ⊥
no_err told why same = cc

pub no_disk : failed NoMemory ≡ failed DiskFailed → ⊥
no_disk same = cc

module _ {D : Type 0} (moment : D → ℕ) (left_since : D → ℕ → List ℕ → Type 0) (seen : D → List ℕ) (may_leave : D → List ℕ → Type 0)
    (old new : D) (s t : Stored) (m : Machine) (request : Request) (session phase : ℕ) (reading : Reading) (reads : reading ≡ Ok (command.Commit session request))
    (only_now : (c : List ℕ) → left_since old (moment old) c → may_leave old c) (kept : IsKept seen may_leave old s) where
  abbrev Leaves : Result Answer Stopped → Type 0
  Leaves result = PlaysLine seen may_leave moment left_since m phase reading old s new t result

  abbrev LeavesCommit : Result Answer Stopped → Type 0
  LeavesCommit result = PlaysLine seen may_leave moment left_since m phase (Ok (command.Commit session request)) old s new t result

  as_read : (result : Result Answer Stopped) → LeavesCommit result → Leaves result
  as_read result plays =
      subst (λ (r : Reading). PlaysLine seen may_leave moment left_since m phase r old s new t result) (sym reads) plays

  pub plays_done : (made : Committed) → Replies (options_in s) m request (reply.Committed made) t → IsKept seen may_leave new t
      → LeavesOnly moment left_since old new (IsJournalOrOneMore (options_in s) (requests_in s) request)
      → Leaves (Ok (answer.Committed made.revision made.identity))
  plays_done made replies after leaves = as_read (Ok (answer.Committed made.revision made.identity)) (record {
    answered = record { is_told = done_told (options_in s) m request made t replies; stands = replies.stands; kept = after };
    accepted = λ is. absurd (no_err (answer.Committed made.revision made.identity) DiskFailed is);
    any_moment =
        one_accepted moment left_since old new (options_in s) (requests_in s) request (fault_of (state_now (options_in s) m.history) request)
        (done_no_fault (options_in s) m request made t replies) leaves;
  })

  pub plays_refused : (refused : Refused) → Replies (options_in s) m request (reply.Refused refused) t → IsKept seen may_leave new t → new ≡ old
      → Leaves (Ok (answer.Refused refused))
  plays_refused refused replies after same = as_read (Ok (answer.Refused refused)) (record {
    answered = record { is_told = refused_told (options_in s) m request refused t replies; stands = replies.stands; kept = after };
    accepted = λ is. absurd (no_err (answer.Refused refused) DiskFailed is);
    any_moment =
        nothing_done_at moment left_since seen may_leave old new s same only_now kept (unless_fault request (fault_of (state_now (options_in s) m.history) request));
  })

  pub plays_memory : new ≡ old → Leaves (Err NoMemory)
  plays_memory same = as_read (Err NoMemory) (record {
    answered = tt;
    accepted = λ is. absurd (no_disk is);
    any_moment =
        nothing_done_at moment left_since seen may_leave old new s same only_now kept (unless_fault request (fault_of (state_now (options_in s) m.history) request));
  })

  pub plays_disk : (made : Committed) → Replies (options_in s) m request (reply.Committed made) t
      → LeavesOnly moment left_since old new (IsJournalOrOneMore (options_in s) (requests_in s) request) → Leaves (Err DiskFailed)
  plays_disk made replies leaves = as_read (Err DiskFailed) (record {
    answered = tt;
    accepted = λ is. record { session = session; request = request; reads = refl; no_fault = done_no_fault (options_in s) m request made t replies };
    any_moment =
        one_accepted moment left_since old new (options_in s) (requests_in s) request (fault_of (state_now (options_in s) m.history) request)
        (done_no_fault (options_in s) m request made t replies) leaves;
  })
