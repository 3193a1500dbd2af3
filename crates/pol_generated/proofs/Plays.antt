-- Commands that may all be answered in input order: requests that may commit, and queries of live endpoints.
use Rattle.std.proofs.Common.{◌≡◌, ℕ, Bool, true, false, ◌||◌, List, [], ◌∷◌, ◌++◌, map, Option, None, Some, option_map, Ok, refl, sym, subst}
use Rattle.std.specs.List.{list_any}
use Rattle.pol_model_laws.specs.WithoutFaults.{CommitFrom, MayCommit}
use Rattle.pol_model.specs.After.{after, after_all}
use Rattle.pol_model.specs.Endpoints.{endpoint_of}
use Rattle.pol_model.specs.Explain.{explain_for}
use Rattle.pol_model.specs.Fault.{fault_of}
use Rattle.pol_model.specs.State.{State}
use Rattle.pol_model.specs.declared.answer.Fault.{Fault}
use Rattle.pol_model.specs.declared.options.Options.{Options}
use Rattle.pol_model.specs.declared.request.Query.{Query}
use Rattle.pol_model.specs.declared.request.Request.{Request}
use Rattle.pol_model.specs.declared.row.Endpoint.{Endpoint}
use Rattle.pol_run.specs.Run.{is_marked}
use Rattle.pol_run.specs.Serial.{answer_at_endpoint, answer_to_commit, answer_with_trace, answers_from, commit_answer, look_answer, state_with, trace_answer}
use Rattle.pol_run.specs.Spots.{phase_after}
use Rattle.pol_script.specs.declared.command.Command.{Command}
use Rattle.pol_script.specs.declared.command.Command.TheVariants as command
use Rattle.pol_generated.specs.Requests.{requests_in}

-- an endpoint of the name is live
abbrev pub LivesIn : State → List ℕ → Type 0
LivesIn s name = (endpoint : Endpoint) × (endpoint_of name s.endpoints ≡ Some endpoint)

-- the commands, from this state on
abbrev pub Plays : State → List Command → Type 0
Plays s [] = Unit {0}
Plays s (command.Commit session request ∷ others) = MayCommit s request × Plays (after s request) others
Plays s (command.Look session query ∷ others) = LivesIn s query.endpoint × Plays s others
Plays s (command.Trace session query ∷ others) = LivesIn s query.endpoint × Plays s others
Plays s (command.Sync session ∷ others) = Plays s others
Plays s (command.Phase ∷ others) = Plays s others

-- the state behind the commands
abbrev pub behind : State → List Command → State
behind s commands = after_all s (requests_in commands)

pub plays_more : (s : State) (front back : List Command) → Plays s front → Plays (behind s front) back → Plays s (front ++ back)
plays_more s [] back first second = second
plays_more s (command.Commit session request ∷ front) back first second = (first.0, plays_more (after s request) front back first.1 second)
plays_more s (command.Look session query ∷ front) back first second = (first.0, plays_more s front back first.1 second)
plays_more s (command.Trace session query ∷ front) back first second = (first.0, plays_more s front back first.1 second)
plays_more s (command.Sync session ∷ front) back first second = plays_more s front back first second
plays_more s (command.Phase ∷ front) back first second = plays_more s front back first second

-- ---- what follows

-- their requests commit one after another
pub plays_commit : (s : State) (commands : List Command) → Plays s commands → CommitFrom s (requests_in commands)
plays_commit s [] plays = tt
plays_commit s (command.Commit session request ∷ others) plays = (plays.0, plays_commit (after s request) others plays.1)
plays_commit s (command.Look session query ∷ others) plays = plays_commit s others plays.1
plays_commit s (command.Trace session query ∷ others) plays = plays_commit s others plays.1
plays_commit s (command.Sync session ∷ others) plays = plays_commit s others plays
plays_commit s (command.Phase ∷ others) plays = plays_commit s others plays

committed : (s : State) (request : Request) (fault : Option Fault) → fault ≡ None → is_marked (answer_to_commit s (state_with s request fault) request fault) ≡ false
committed s request None none = refl
committed s request (Some fault) none = absurd cc

pub committed_state : (s : State) (request : Request) (fault : Option Fault) → fault ≡ None → state_with s request fault ≡ after s request
committed_state s request None none = refl
committed_state s request (Some fault) none = absurd cc

looked : (options : Options) (s : State) (query : Query) (o : Option Endpoint) (endpoint : Endpoint) → o ≡ Some endpoint
    → is_marked (answer_at_endpoint options s query o) ≡ false
looked options s query None endpoint found = absurd cc
looked options s query (Some e) endpoint found = refl

traced : (options : Options) (s : State) (query : Query) (o : Option Endpoint) (endpoint : Endpoint) → o ≡ Some endpoint
    → is_marked (answer_with_trace s (option_map (explain_for options s query) o)) ≡ false
traced options s query None endpoint found = absurd cc
traced options s query (Some e) endpoint found = refl

both_false : (a b : Bool) → a ≡ false → b ≡ false → (a || b) ≡ false
both_false true b one two = one
both_false false b one two = two

-- none of their answers makes the status 1
pub plays_unmarked : (options : Options) (s : State) (phase : ℕ) (commands : List Command) → Plays s commands
    → list_any is_marked (answers_from options s phase (map Ok commands)) ≡ false
plays_unmarked options s phase [] plays = refl
plays_unmarked options s phase (command.Commit session request ∷ others) plays =
    let none = plays.0.no_fault in
    both_false (is_marked (commit_answer s request)) _ (committed s request (fault_of s request) none)
    (subst (λ (next : State). list_any is_marked (answers_from options next phase (map Ok others)) ≡ false)
    (sym (committed_state s request (fault_of s request) none)) (plays_unmarked options (after s request) phase others plays.1))
plays_unmarked options s phase (command.Look session query ∷ others) plays =
    both_false (is_marked (look_answer options s query)) _ (looked options s query (endpoint_of query.endpoint s.endpoints) plays.0.0 plays.0.1)
    (plays_unmarked options s phase others plays.1)
plays_unmarked options s phase (command.Trace session query ∷ others) plays =
    both_false (is_marked (trace_answer options s query)) _ (traced options s query (endpoint_of query.endpoint s.endpoints) plays.0.0 plays.0.1)
    (plays_unmarked options s phase others plays.1)
plays_unmarked options s phase (command.Sync session ∷ others) plays = plays_unmarked options s phase others plays
plays_unmarked options s phase (command.Phase ∷ others) plays = plays_unmarked options s (phase_after phase (Ok command.Phase)) others plays
