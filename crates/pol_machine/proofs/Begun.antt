-- A machine before its first step, and one after a step.
use Rattle.std.proofs.Common.{◌≡◌, ℕ, ◌≤◌, List, [], None, Result, Ok, Err, option_map, sym, ap, ◌∙◌, subst}
use Rattle.pol_history.specs.declared.machine.Event.{Event}
use Rattle.pol_history.specs.declared.machine.Reply.{Reply}
use Rattle.pol_history.specs.declared.machine.Reply.TheVariants as reply
use Rattle.pol_history.specs.Machine.{Machine, machine_start, step_of}
use Rattle.pol_history.proofs.Lists.{no_element}
use Rattle.pol_history.proofs.Steps.{start_sound}
use Rattle.pol_model.specs.declared.options.Options.{Options}
use Rattle.pol_model.specs.declared.request.Request.{Request}
use Rattle.pol_repo.specs.Repository.{Repository}
use Rattle.pol_machine.specs.Parts.{Commits}
use Rattle.pol_machine.specs.Rows.{RowsOf, row_held}
use Rattle.pol_machine.specs.Stands.{Kept, StandsFor, StandsForSome, Steps, options_of, taken_as}

pub start_stands : (k : Kept) (options : Options) → k.limit ≤ 65536 → options.map_max ≡ None → k.repo ≡ record { options = options; journal = []; prepared = None }
    → ((name : List ℕ) → k.rows name ≡ None) → ((slot : ℕ) → k.takes slot ≡ None) → StandsFor k machine_start
start_stands k options few unlimited repo rows takes = record {
  few = few;
  sound = start_sound (options_of k);
  at = record {
    journal = ap (λ (r : Repository). r.journal) repo;
    idle = ap (λ (r : Repository). r.prepared) repo;
    options_same =
        subst (λ (r : Repository). r.options ≡ record r.options { map_max = None }) (sym repo)
        (λ i. record options { map_max = unlimited i });
  };
  live = λ name. ap (option_map row_held) (rows name);
  works = λ name row there. absurd (no_element row (sym (rows name) ∙ there));
  taken = λ slot. ap (option_map taken_as) (takes slot);
  takes = λ slot taken there. absurd (no_element taken (sym (takes slot) ∙ there));
}

pub stands_after : {E : Type 0} (options : Options) (m : Machine) (event : Event) (k : Kept) (result : Result Reply E) → Steps options m event k result → StandsForSome k
stands_after options m event k (Ok reply) steps = record { machine = (step_of options m event).1; stands = steps.1 }
stands_after options m event k (Err error) steps = record { machine = m; stands = steps }

-- a commit leaves the options
pub commit_options : {E : Type 0} (old new : Repository) (rows later : RowsOf) (request : Request) (result : Result Reply E) → Commits old new rows later request result
    → new.options ≡ old.options
commit_options old new rows later request (Ok (reply.Committed done)) was = ap (λ (r : Repository). r.options) was.repo
commit_options old new rows later request (Ok (reply.Refused refused)) was = ap (λ (r : Repository). r.options) was.1
commit_options old new rows later request (Ok (reply.Took r)) was = absurd was
commit_options old new rows later request (Ok reply.Gone) was = absurd was
commit_options old new rows later request (Ok reply.Idle) was = absurd was
commit_options old new rows later request (Ok (reply.Already r)) was = absurd was
commit_options old new rows later request (Ok (reply.Full r n)) was = absurd was
commit_options old new rows later request (Ok (reply.Published r)) was = absurd was
commit_options old new rows later request (Ok (reply.Verdict r word)) was = absurd was
commit_options old new rows later request (Ok (reply.NoEndpoint r)) was = absurd was
commit_options old new rows later request (Ok (reply.NotYet r)) was = absurd was
commit_options old new rows later request (Err error) was = ap (λ (r : Repository). r.options) was.0
