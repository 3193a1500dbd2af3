-- How a script is cut into phases, each with the commands of every session, and how the answers that the sessions got
-- are put back in the order of the lines.
use Rattle.std.specs.Prelude.{ℕ, zero, suc, ◌≤◌, List, [], ◌∷◌, ◌++◌, drop, replicate, Option, None, Some, Ok, Err, IfSome}
use Rattle.std.specs.List.{AllByRecursion}
use Rattle.pol_answer.specs.declared.answer.Answer.{Answer}
use Rattle.pol_answer.specs.declared.answer.Answer.TheVariants as answer
use Rattle.pol_script.specs.declared.command.Command.{Command}
use Rattle.pol_run.specs.Spots.{Reading, phase_after, session_of}

-- ---- lists of lists

-- the list at the index, which is empty past the end
abbrev pub list_at : {X : Type 0} → List (List X) → ℕ → List X
list_at [] i = []
list_at (xs ∷ others) zero = xs
list_at (xs ∷ others) (suc i) = list_at others i

-- the list at the index, changed
abbrev pub change_at : {X : Type 0} → ℕ → (List X → List X) → List (List X) → List (List X)
change_at i change [] = []
change_at zero change (xs ∷ others) = change xs ∷ others
change_at (suc i) change (xs ∷ others) = xs ∷ change_at i change others

-- Sessions are numbered from 1, so the first list is that of session 1.
abbrev pub session_at : {X : Type 0} → List (List X) → ℕ → List X
session_at lists zero = []
session_at lists (suc i) = list_at lists i

abbrev pub change_session : {X : Type 0} → ℕ → (List X → List X) → List (List X) → List (List X)
change_session zero change lists = lists
change_session (suc i) change lists = change_at i change lists

-- what each session has in the first phase
abbrev pub first_phase : {X : Type 0} → List (List (List X)) → List (List X)
first_phase [] = []
first_phase (first ∷ later) = first

abbrev pub change_first : {X : Type 0} → (List (List X) → List (List X)) → List (List (List X)) → List (List (List X))
change_first change [] = []
change_first change (first ∷ later) = change first ∷ later

abbrev pub change_last : {X : Type 0} → (List (List X) → List (List X)) → List (List (List X)) → List (List (List X))
change_last change [] = []
change_last change (last ∷ []) = change last ∷ []
change_last change (first ∷ next ∷ later) = first ∷ change_last change (next ∷ later)

-- what a session has in a phase, where phases are counted from 0
abbrev pub in_phase : {X : Type 0} → List (List (List X)) → ℕ → ℕ → List X
in_phase [] phase session = []
in_phase (first ∷ later) zero session = session_at first session
in_phase (first ∷ later) (suc phase) session = in_phase later phase session

-- ---- the commands

-- the script with one command more in front: a `phase` line, which is of no session, ends the phase before
abbrev pub with_command : ℕ → Command → Option ℕ → List (List (List Command)) → List (List (List Command))
with_command sessions command None phases = replicate sessions [] ∷ phases
with_command sessions command (Some session) phases = change_first (change_session session (λ commands. command ∷ commands)) phases

-- the phases of a script, each with the commands of session 1, 2 and so on, in order; faulty lines are left out
abbrev pub script_of : ℕ → List Reading → List (List (List Command))
script_of sessions [] = replicate sessions [] ∷ []
script_of sessions (Err fault ∷ lines) = script_of sessions lines
script_of sessions (Ok command ∷ lines) = with_command sessions command (session_of (Ok command)) (script_of sessions lines)

-- the script with one command more behind
abbrev pub command_behind : ℕ → Command → Option ℕ → List (List (List Command)) → List (List (List Command))
command_behind sessions command None phases = phases ++ replicate sessions [] ∷ []
command_behind sessions command (Some session) phases = change_last (change_session session (λ commands. commands ++ command ∷ [])) phases

-- the session of the line, if it has one, is one of the first so many
abbrev pub IsSeated : ℕ → Reading → Type 0
IsSeated sessions line = IfSome (session_of line) (λ session. (1 ≤ session) × (session ≤ sessions))

abbrev pub AreSeated : ℕ → List Reading → Type 0
AreSeated sessions lines = AllByRecursion (IsSeated sessions) lines

-- ---- the answers

-- the first answer
abbrev pub first_answer : List Answer → Answer
first_answer [] = answer.Phase 0
first_answer (first ∷ later) = first

-- the answer to a command: a `phase` line has the number of the phase that it ends, another line has its session's next
-- answer
abbrev pub answer_in : ℕ → Option ℕ → List (List (List Answer)) → Answer
answer_in number None told = answer.Phase number
answer_in number (Some session) told = first_answer (session_at (first_phase told) session)

-- what is left of the answers behind it
abbrev pub told_after : Option ℕ → List (List (List Answer)) → List (List (List Answer))
told_after None told = drop 1 told
told_after (Some session) told = change_first (change_session session (λ answers. drop 1 answers)) told

-- The answers to the lines, where the first of them stands in the phase of that number, and each session was told these
-- in each phase.
abbrev pub answers_from : ℕ → List Reading → List (List (List Answer)) → List Answer
answers_from number [] told = []
answers_from number (Err fault ∷ lines) told = answer.BadLine fault ∷ answers_from number lines told
answers_from number (Ok command ∷ lines) told =
    answer_in number (session_of (Ok command)) told
    ∷ answers_from (phase_after number (Ok command)) lines (told_after (session_of (Ok command)) told)

abbrev pub answers_to : List Reading → List (List (List Answer)) → List Answer
answers_to lines told = answers_from 1 lines told
