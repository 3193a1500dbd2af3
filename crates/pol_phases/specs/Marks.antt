-- What is kept of each line of a script when its commands are handed out, and the answers that are put back by it.
use Rattle.std.specs.Prelude.{◌≡◌, ℕ, ◌+◌, List, [], ◌∷◌, ◌++◌, drop, map, Option, None, Some, IsSome, Ok, Err}
use Rattle.pol_answer.specs.declared.answer.Answer.{Answer}
use Rattle.pol_answer.specs.declared.answer.Answer.TheVariants as answer
use Rattle.pol_script.specs.declared.command.Command.{Command}
use Rattle.pol_run.specs.Spots.{Reading, session_of}
use Rattle.pol_run_laws.specs.Cut.{answer_in, first_phase, list_at, script_of, told_after}
use Rattle.pol_phases.specs.declared.mark.Mark.{Mark}
use Rattle.pol_phases.specs.declared.mark.Mark.TheVariants as mark

-- the command is of a session: it is no `phase`
abbrev pub IsOfSession : Command → Type 0
IsOfSession command = IsSome (session_of (Ok command))

-- the mark of a command of this session; a `phase` line has none
abbrev pub mark_for : Option ℕ → Mark
mark_for None = mark.Phase
mark_for (Some session) = mark.Of session

abbrev pub mark_of : Reading → Mark
mark_of (Err fault) = mark.Faulty fault
mark_of (Ok command) = mark_for (session_of (Ok command))

-- ---- the answers, by the marks of their lines

abbrev pub answer_by : ℕ → Mark → List (List (List Answer)) → Answer
answer_by number (mark.Faulty fault) told = answer.BadLine fault
answer_by number (mark.Of session) told = answer_in number (Some session) told
answer_by number mark.Phase told = answer_in number None told

abbrev pub number_by : ℕ → Mark → ℕ
number_by number (mark.Faulty fault) = number
number_by number (mark.Of session) = number
number_by number mark.Phase = number + 1

abbrev pub told_by : Mark → List (List (List Answer)) → List (List (List Answer))
told_by (mark.Faulty fault) told = told
told_by (mark.Of session) told = told_after (Some session) told
told_by mark.Phase told = told_after None told

-- the answers to the lines of these marks, where the first stands in the phase of that number, and each session was told
-- these in each phase
abbrev pub answers_by : ℕ → List Mark → List (List (List Answer)) → List Answer
answers_by number [] told = []
answers_by number (first ∷ marks) told = answer_by number first told ∷ answers_by (number_by number first) marks (told_by first told)

-- ---- a script that is being cut

-- the lines so far are cut: these phases have ended, and the last one has these commands so far
pub record IsCut (sessions : ℕ) (lines : List Reading) (ended : List (List (List Command))) (current : List (List Command)) (marks : List Mark) : Type 0 where
  pub phases : ended ++ current ∷ [] ≡ script_of sessions lines
  pub marked : marks ≡ map mark_of lines

-- ---- two parts of a script

-- each list, with the one beside it behind it
abbrev pub beside : {X : Type 0} → List (List X) → List (List X) → List (List X)
beside [] others = []
beside (xs ∷ lists) others = (xs ++ list_at others 0) ∷ beside lists (drop 1 others)

-- the phases of one part, and of a later one: the last phase of the one and the first of the other are one phase
abbrev pub joined : {X : Type 0} → List (List (List X)) → List (List (List X)) → List (List (List X))
joined [] later = later
joined (last ∷ []) later = beside last (first_phase later) ∷ drop 1 later
joined (first ∷ next ∷ phases) later = first ∷ joined (next ∷ phases) later

-- ---- answers that are put back

-- what is left of the answers: those of the current phase, none past the last one, and those of later phases
pub record IsLeft (told : List (List (List Answer))) (current : List (List Answer)) (later : List (List (List Answer))) : Type 0 where
  pub now : current ≡ first_phase told
  pub behind : later ≡ drop 1 told
