-- The calls of the disk, line by line.
use Rattle.std.proofs.Common.{◌≡◌, inl, inr, ℕ, ◌+◌, ◌*◌, ◌<◌, ◌≤◌, ◌^◌, Bool, true, false, if◌then◌else◌, nat_le, List, [], ◌∷◌, ◌++◌, length, Result, Ok, Err, refl, sym, ap, ◌∙◌, subst, arith, length-append}
use Rattle.std.proofs.lemmas.Bool.{cases_lt}
use Rattle.pol_disk.specs.Calls.{Asked, Reads, Cuts, Syncs, Runs, StopsIn}
use Rattle.pol_disk.proofs.Plans.{runs_on}
use Rattle.pol_history.specs.declared.machine.Reply.TheVariants as reply
use Rattle.pol_history.specs.Machine.{Machine}
use Rattle.pol_kept.specs.Calls.{StopsOpening, calls_of_commit, calls_of_open}
use Rattle.pol_kept.specs.Keeps.{Replies}
use Rattle.pol_kept.specs.declared.error.KeptError.{KeptError}
use Rattle.pol_kept.specs.declared.error.KeptError.TheVariants as kept
use Rattle.pol_kept.specs.declared.error.OpenError.{OpenError}
use Rattle.pol_kept.specs.declared.error.OpenError.TheVariants as opened
use Rattle.pol_machine.specs.Stands.{Stored}
use Rattle.pol_model.specs.declared.answer.Committed.{Committed}
use Rattle.pol_model.specs.declared.answer.Refused.{Refused}
use Rattle.pol_model.specs.declared.options.Options.{Options}
use Rattle.pol_model.specs.declared.request.Request.{Request}
use Rattle.pol_record_log.specs.Log.{last_gate}
use Rattle.pol_record_log.specs.Steps.{calls_of_start}
use Rattle.pol_run.specs.Spots.{Reading}
use Rattle.pol_script.specs.declared.command.Command.TheVariants as command
use Rattle.pol_serial_run.specs.Accepted.{accepted_by, unless_fault}
use Rattle.pol_play_kept.specs.Calls.{RunsFor, StopsKeeping, calls_to_keep, calls_to_open}
use Rattle.pol_play_kept.proofs.Answered.{done_no_fault, refused_none}

-- ---- counts

pub keep_both : (front back : List Request) → calls_to_keep (front ++ back) ≡ calls_to_keep front + calls_to_keep back
keep_both front back = omega (arith, length-append front back)

open_many : (short : Bool) (bytes : List ℕ)
    → length (Syncs ∷ (if short then calls_of_start else (Reads 0 (length bytes) ∷ Cuts (last_gate bytes + 1) ∷ Syncs ∷ []))) ≡ (if short then 3 else 4)
open_many true bytes = refl
open_many false bytes = refl

-- ---- a commit that failed

-- a line is short enough for a record where its commit didn't want memory
pub short_line : (line : List ℕ) (result : Result Committed KeptError) (why : KeptError) → why ≡ kept.Disk → result ≡ Err why
    → (2 ^ 32 ≤ length line → result ≡ Err kept.Memory) → length line < 2 ^ 32
short_line line result why disk is too_long = elim (cases_lt (length line) (2 ^ 32)) [
  | inl less ↦ less
  | inr over ↦ absurd (no_memory why disk result is (too_long over))
]
  where
    no_memory : (why : KeptError) → why ≡ kept.Disk → (result : Result Committed KeptError) → result ≡ Err why → result ≡ Err kept.Memory → ⊥
    no_memory why disk result is other = cc

module _ {D : Type 0} (does fails : D → Asked → D → Type 0) where
  -- ---- runs

  pub runs_none : (old new : D) → new ≡ old → RunsFor does fails 0 old new
  runs_none old new same = record { calls = []; many = refl; ran = same }

  pub runs_more : (m n : ℕ) (old mid new : D) → RunsFor does fails m old mid → RunsFor does fails n mid new → RunsFor does fails (m + n) old new
  runs_more m n old mid new first later = record {
    calls = first.calls ++ later.calls;
    many = length-append first.calls later.calls ∙ (λ i. first.many i + later.many i);
    ran = runs_on does fails first.calls later.calls old mid new first.ran later.ran;
  }

  -- so many, as another count has it
  pub runs_as : (m n : ℕ) (old new : D) → m ≡ n → RunsFor does fails m old new → RunsFor does fails n old new
  runs_as m n old new same runs = record { calls = runs.calls; many = runs.many ∙ same; ran = runs.ran }

  -- ---- a line

  -- it accepts nothing, and no call was made
  pub keeps_none : (options : Options) (m : Machine) (reading : Reading) (old new : D) → accepted_by options m reading ≡ [] → new ≡ old
      → RunsFor does fails (calls_to_keep (accepted_by options m reading)) old new
  keeps_none options m reading old new none same = runs_as 0 _ old new (sym (ap calls_to_keep none)) (runs_none old new same)

  module _ (seen : D → List ℕ) (options : Options) (m : Machine) (request : Request) (session : ℕ) (line : List ℕ) (reading : Reading)
      (reads : reading ≡ Ok (command.Commit session request)) (old new : D) (t : Stored) where
    pub keeps_one : (made : Committed) → Replies options m request (reply.Committed made) t → Runs does fails old (calls_of_commit (seen old) line) new
        → RunsFor does fails (calls_to_keep (accepted_by options m reading)) old new
    keeps_one made replies ran =
        let one : accepted_by options m reading ≡ request ∷ [] = ap (accepted_by options m) reads ∙ ap (unless_fault request) (done_no_fault options m request made t replies) in
        record { calls = calls_of_commit (seen old) line; many = sym (ap calls_to_keep one); ran = ran }

    pub keeps_refused : (refused : Refused) → Replies options m request (reply.Refused refused) t → new ≡ old
        → RunsFor does fails (calls_to_keep (accepted_by options m reading)) old new
    keeps_refused refused replies same =
        keeps_none options m reading old new (ap (accepted_by options m) reads ∙ refused_none options m request refused t replies) same

  -- ---- opening

  pub opens_for : (seen : D → List ℕ) (old new : D) → Runs does fails old (calls_of_open (seen old)) new
      → RunsFor does fails (calls_to_open (seen old)) old new
  opens_for seen old new ran = record {
    calls = calls_of_open (seen old);
    many = open_many (nat_le (length (seen old)) 1) (seen old);
    ran = ran;
  }

  pub fails_to_open : (bytes : List ℕ) (old new : D) (why : OpenError) → why ≡ opened.Disk → StopsOpening does fails bytes old why new
      → StopsIn does fails old (calls_of_open bytes) new
  fails_to_open bytes old new why disk stops = subst (λ (e : OpenError). StopsOpening does fails bytes old e new) disk stops
