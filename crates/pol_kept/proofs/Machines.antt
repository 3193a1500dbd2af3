-- What a commit does to a machine that is stood for.
use Rattle.std.proofs.Common.{◌≡◌, Bool, true, false, List, [], ◌∷◌, ◌++◌, map, Option, None, Some, is_some, Err, refl, sym, ap, ◌∙◌, subst}
use Rattle.pol_history.specs.declared.machine.Event.TheVariants as step
use Rattle.pol_history.specs.declared.machine.Reply.{Reply}
use Rattle.pol_history.specs.declared.machine.Reply.TheVariants as reply
use Rattle.pol_history.specs.Commits.{state_now}
use Rattle.pol_history.specs.Machine.{Machine, commit_of, machine_from, machine_start, step_commit, step_of}
use Rattle.pol_history.proofs.Cuts.{commits-append}
use Rattle.pol_kept.specs.Errors.{answered, is_committed, is_disk}
use Rattle.pol_kept.specs.declared.error.KeptError.{KeptError}
use Rattle.pol_kept.specs.declared.error.KeptError.TheVariants as kept
use Rattle.pol_kept.specs.Keeps.{Commits, CommitsAgain, Replies, requests_in}
use Rattle.pol_machine.specs.Serial.{machine_of}
use Rattle.pol_machine.specs.Stands.{Stands, Stored, options_in}
use Rattle.pol_model.specs.After.{state_of}
use Rattle.pol_model.specs.Fault.{fault_of}
use Rattle.pol_model.specs.declared.answer.Committed.{Committed}
use Rattle.pol_model.specs.declared.answer.Fault.{Fault}
use Rattle.pol_model.specs.declared.answer.Refused.{Refused}
use Rattle.pol_model.specs.declared.options.Options.{Options}
use Rattle.pol_model.specs.declared.request.Request.{Request}

-- whether a reply answers a commit
abbrev is_answer : Reply → Bool
is_answer (reply.Committed done) = true
is_answer (reply.Refused refused) = true
is_answer (reply.Took revision) = false
is_answer reply.Gone = false
is_answer reply.Idle = false
is_answer (reply.Already revision) = false
is_answer (reply.Full revision count) = false
is_answer (reply.Published revision) = false
is_answer (reply.Verdict revision word) = false
is_answer (reply.NoEndpoint revision) = false
is_answer (reply.NotYet revision) = false

-- the request was committed, and had no fault
pub record HasCommitted (options : Options) (request : Request) (old new : Stored) : Type 0 where
  pub no_fault : fault_of (state_of options (requests_in old)) request ≡ None
  pub requests_are : requests_in new ≡ requests_in old ++ request ∷ []

module _ (options : Options) (m : Machine) (request : Request) (old : Stored) (stands : Stands old m) where
  in_state : fault_of (state_now options m.history) request ≡ fault_of (state_of options (requests_in old)) request
  in_state = ap (λ (rs : List Request). fault_of (state_of options rs) request) (sym stands.at.journal)

  committed_by : (new : Stored) (done : Committed) (f : Option Fault) → fault_of (state_of options (requests_in old)) request ≡ f
      → reply.Committed done ≡ (step_commit options m request f).0 → Stands new (step_commit options m request f).1 → HasCommitted options request old new
  committed_by new done None none said now = record {
    no_fault = none;
    requests_are =
        now.at.journal
        ∙ commits-append m.history (commit_of m request ∷ [])
        ∙ ap (λ (rs : List Request). rs ++ request ∷ []) (sym stands.at.journal);
  }
  committed_by new done (Some fault) some said now = absurd (let no : true ≡ false = ap is_committed said in cc)

  pub committed : (new : Stored) (done : Committed) → Replies options m request (reply.Committed done) new → HasCommitted options request old new
  committed new done replies = committed_by new done (fault_of (state_now options m.history) request) (sym in_state) replies.said_so replies.stands

  -- a reply that is no commit tells a fault
  fault_by : (said : Reply) (f : Option Fault) → fault_of (state_of options (requests_in old)) request ≡ f → said ≡ (step_commit options m request f).0
      → is_committed said ≡ false → is_some (fault_of (state_of options (requests_in old)) request) ≡ true
  fault_by said None none is other = absurd (let no : true ≡ false = ap is_committed (sym is) ∙ other in cc)
  fault_by said (Some fault) some is other = ap (λ (f : Option Fault). is_some f) some

  pub has_fault : (said : Reply) → said ≡ (step_of options m (step.Commit request)).0 → is_committed said ≡ false
      → is_some (fault_of (state_of options (requests_in old)) request) ≡ true
  has_fault said is other = fault_by said (fault_of (state_now options m.history) request) (sym in_state) is other

  refused_by : (new : Stored) (refused : Refused) (f : Option Fault) → reply.Refused refused ≡ (step_commit options m request f).0
      → Stands new (step_commit options m request f).1 → Stands new m
  refused_by new refused None said now = absurd (let no : false ≡ true = ap is_committed said in cc)
  refused_by new refused (Some fault) said now = now

  -- after another answer the machine is as before
  pub not_committed : (new : Stored) (why : KeptError) → is_disk why ≡ false → Commits options m request new (Err why) → Stands new m
  not_committed new (kept.Refused refused) other done = refused_by new refused (fault_of (state_now options m.history) request) done.said_so done.stands
  not_committed new kept.Memory other done = done
  not_committed new kept.Disk other done = absurd (let no : true ≡ false = other in cc)

-- every commit is answered
answers : (options : Options) (m : Machine) (request : Request) (f : Option Fault) → is_answer (step_commit options m request f).0 ≡ true
answers options m request None = refl
answers options m request (Some fault) = refl

no_answer : (options : Options) (m : Machine) (request : Request) (said : Reply) → said ≡ (step_of options m (step.Commit request)).0 → is_answer said ≡ false → ⊥
no_answer options m request said is other =
    let no : true ≡ false = sym (answers options m request (fault_of (state_now options m.history) request)) ∙ ap is_answer (sym is) ∙ other in
    cc

-- what the machine has done by the reply
pub told : (options : Options) (m : Machine) (request : Request) (new : Stored) (said : Reply) → said ≡ (step_of options m (step.Commit request)).0
    → Stands new (step_of options m (step.Commit request)).1 → Commits options m request new (answered said)
told options m request new (reply.Committed done) is stands = record { said_so = is; stands = stands }
told options m request new (reply.Refused refused) is stands = record { said_so = is; stands = stands }
told options m request new (reply.Took revision) is stands = absurd (no_answer options m request (reply.Took revision) is refl)
told options m request new reply.Gone is stands = absurd (no_answer options m request reply.Gone is refl)
told options m request new reply.Idle is stands = absurd (no_answer options m request reply.Idle is refl)
told options m request new (reply.Already revision) is stands = absurd (no_answer options m request (reply.Already revision) is refl)
told options m request new (reply.Full revision count) is stands = absurd (no_answer options m request (reply.Full revision count) is refl)
told options m request new (reply.Published revision) is stands = absurd (no_answer options m request (reply.Published revision) is refl)
told options m request new (reply.Verdict revision word) is stands = absurd (no_answer options m request (reply.Verdict revision word) is refl)
told options m request new (reply.NoEndpoint revision) is stands = absurd (no_answer options m request (reply.NoEndpoint revision) is refl)
told options m request new (reply.NotYet revision) is stands = absurd (no_answer options m request (reply.NotYet revision) is refl)

-- ---- a machine that committed requests and did nothing else

commits_push : (options : Options) (m : Machine) (requests : List Request) (request : Request)
    → machine_from options m (map step.Commit (requests ++ request ∷ [])) ≡ (step_of options (machine_from options m (map step.Commit requests)) (step.Commit request)).1
commits_push options m [] request = refl
commits_push options m (first ∷ requests) request = commits_push options (step_of options m (step.Commit first)).1 requests request

-- one commit more
pub one_more : (options : Options) (request : Request) (old new : Stored) → Stands old (machine_of options (requests_in old)) → options_in new ≡ options
    → (said : Reply) → said ≡ (step_of options (machine_of options (requests_in old)) (step.Commit request)).0
    → Stands new (step_of options (machine_of options (requests_in old)) (step.Commit request)).1 → CommitsAgain options request old new (is_committed said)
one_more options request old new stands is (reply.Committed done) said now =
    let m = machine_of options (requests_in old) in
    let has = committed options m request old stands new done (record { said_so = said; stands = now }) in
    record {
      options_are = is;
      no_fault = has.no_fault;
      requests_are = has.requests_are;
      stands =
          subst (λ (rs : List Request). Stands new (machine_of options rs)) (sym has.requests_are)
          (subst (λ (n : Machine). Stands new n) (sym (commits_push options machine_start (requests_in old) request)) now);
    }
one_more options request old new stands is (reply.Refused refused) said now = has_fault options (machine_of options (requests_in old)) request old stands (reply.Refused refused) said refl
one_more options request old new stands is (reply.Took revision) said now = has_fault options (machine_of options (requests_in old)) request old stands (reply.Took revision) said refl
one_more options request old new stands is reply.Gone said now = has_fault options (machine_of options (requests_in old)) request old stands reply.Gone said refl
one_more options request old new stands is reply.Idle said now = has_fault options (machine_of options (requests_in old)) request old stands reply.Idle said refl
one_more options request old new stands is (reply.Already revision) said now = has_fault options (machine_of options (requests_in old)) request old stands (reply.Already revision) said refl
one_more options request old new stands is (reply.Full revision count) said now = has_fault options (machine_of options (requests_in old)) request old stands (reply.Full revision count) said refl
one_more options request old new stands is (reply.Published revision) said now = has_fault options (machine_of options (requests_in old)) request old stands (reply.Published revision) said refl
one_more options request old new stands is (reply.Verdict revision word) said now = has_fault options (machine_of options (requests_in old)) request old stands (reply.Verdict revision word) said refl
one_more options request old new stands is (reply.NoEndpoint revision) said now = has_fault options (machine_of options (requests_in old)) request old stands (reply.NoEndpoint revision) said refl
one_more options request old new stands is (reply.NotYet revision) said now = has_fault options (machine_of options (requests_in old)) request old stands (reply.NotYet revision) said refl
