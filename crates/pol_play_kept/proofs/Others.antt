-- A line that accepts no request.
use Rattle.std.proofs.Common.{◌≡◌, ℕ, Bool, true, false, List, [], ◌∷◌, ◌++◌, Ok, Err, refl, sym, ap, ◌∙◌, subst, append-nil}
use Rattle.pol_answer.specs.declared.answer.Answer.{Answer}
use Rattle.pol_history.specs.Commits.{commits_in}
use Rattle.pol_history.specs.Machine.{Machine}
use Rattle.pol_kept.specs.Keeps.{IsKept, requests_in}
use Rattle.pol_kept.proofs.Disks.{kept_on}
use Rattle.pol_machine.specs.Stands.{Stands, Stored, options_in}
use Rattle.pol_model.specs.declared.options.Options.{Options}
use Rattle.pol_model.specs.declared.request.Request.{Request}
use Rattle.pol_run.specs.Spots.{Reading}
use Rattle.pol_script.specs.declared.command.Command.{Command}
use Rattle.pol_script.specs.declared.command.Command.TheVariants as command
use Rattle.pol_serial_run.specs.Accepted.{accepted_by}
use Rattle.pol_serial_run.specs.Asking.{is_commit}
use Rattle.pol_serial_run.specs.SerialRun.{IsLineAnswer, machine_then}
use Rattle.pol_serial_run.proofs.Going.{commits_then}
use Rattle.pol_play_kept.specs.Answering.{IsAnswered, PlaysLine}
use Rattle.pol_play_kept.specs.declared.line.Stopped.TheVariants.{Disk as DiskFailed, Memory as NoMemory}
use Rattle.pol_play_kept.proofs.Committing.{no_disk, no_err}
use Rattle.pol_play_kept.proofs.Kept.{nothing_done}

-- a command that commits nothing accepts nothing
pub none_accepted : (options : Options) (m : Machine) (asked : Command) → is_commit asked ≡ false → accepted_by options m (Ok asked) ≡ []
none_accepted options m (command.Commit session request) other = absurd (let no : true ≡ false = other in cc)
none_accepted options m (command.Look session query) other = refl
none_accepted options m (command.Trace session query) other = refl
none_accepted options m (command.Sync session) other = refl
none_accepted options m command.Phase other = refl

module _ {D : Type 0} (seen : D → List ℕ) (may_leave : D → List ℕ → Type 0) (disk : D) (old : Stored) (m : Machine) (stands : Stands old m) (kept : IsKept seen may_leave disk old)
    (phase : ℕ) (reading : Reading) (none : accepted_by (options_in old) m reading ≡ []) where
  same_requests : (new : Stored) → Stands new (machine_then (options_in old) m reading) → requests_in new ≡ requests_in old
  same_requests new then =
      then.at.journal ∙ commits_then (options_in old) m reading
      ∙ ap (λ (more : List Request). commits_in m.history ++ more) none ∙ append-nil (commits_in m.history) ∙ sym stands.at.journal

  pub other_answered : (new : Stored) (told : Answer) → options_in new ≡ options_in old → IsLineAnswer (options_in old) m phase reading told
      → Stands new (machine_then (options_in old) m reading) → IsAnswered seen may_leave (options_in old) m phase reading told disk new
  other_answered new told same is then = record {
    is_told = is;
    stands = then;
    kept = kept_on seen may_leave disk old new kept (record { machine = machine_then (options_in old) m reading; stands = then }) same (same_requests new then);
  }

-- what such a line leaves
module _ {D : Type 0} (moment : D → ℕ) (left_since : D → ℕ → List ℕ → Type 0) (seen : D → List ℕ) (may_leave : D → List ℕ → Type 0)
    (old : D) (s t : Stored) (m : Machine) (stands : Stands s m) (kept : IsKept seen may_leave old s) (phase : ℕ) (reading : Reading)
    (none : accepted_by (options_in s) m reading ≡ []) (only_now : (c : List ℕ) → left_since old (moment old) c → may_leave old c) where
  pub plays_told : (told : Answer) → options_in t ≡ options_in s → IsLineAnswer (options_in s) m phase reading told → Stands t (machine_then (options_in s) m reading)
      → PlaysLine seen may_leave moment left_since m phase reading old s old t (Ok told)
  plays_told told same is then = record {
    answered = other_answered seen may_leave old s m stands kept phase reading none t told same is then;
    accepted = λ is. absurd (no_err told DiskFailed is);
    any_moment = nothing_done moment left_since seen may_leave old s only_now kept (accepted_by (options_in s) m reading);
  }

  pub plays_nothing : PlaysLine seen may_leave moment left_since m phase reading old s old t (Err NoMemory)
  plays_nothing = record {
    answered = tt;
    accepted = λ is. absurd (no_disk is);
    any_moment = nothing_done moment left_since seen may_leave old s only_now kept (accepted_by (options_in s) m reading);
  }
