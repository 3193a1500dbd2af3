-- A run of the policy machine: what a program may answer to a script, however its sessions interleave.
use Rattle.std.specs.Prelude.{⊤, ◌≡◌, ◌≢◌, ℕ, ◌<◌, ◌≤◌, Bool, true, false, if◌then◌else◌, List, [], ◌∷◌, length, map, IsTrue}
use Rattle.std.specs.List.{AllByRecursion, Contains, list_any, zip}
use Rattle.pol_model.specs.declared.options.Options.{Options}
use Rattle.pol_answer.specs.declared.answer.Answer.{Answer}
use Rattle.pol_answer.specs.declared.answer.Answer.TheVariants as answer
use Rattle.pol_script.specs.Lines.{lines_of}
use Rattle.pol_script.specs.Reading.{reading_of}
use Rattle.pol_answer.specs.Text.{texts_of}
use Rattle.pol_run.specs.Spots.{Spot, Reading, spots_of, stands_before}
use Rattle.pol_run.specs.History.{Commit, commits_of}
use Rattle.pol_run.specs.RightAnswer.{RightAnswer}

-- no two of the commits carry one number
abbrev pub NumbersDiffer : List Commit → Type 0
NumbersDiffer [] = ⊤
NumbersDiffer (c ∷ cs) = AllByRecursion (λ other. c.number ≢ other.number) cs × NumbersDiffer cs

-- The `ok` lines carry 1 to n, each once, ascending within each session and from phase to phase.
pub record IsNumbered (commits : List Commit) : Type 0 where
  pub from_one : AllByRecursion (λ c. (1 ≤ c.number) × (c.number ≤ length commits)) commits
  pub each_once : NumbersDiffer commits
  pub ascending : (a b : Commit) → Contains commits a → Contains commits b → IsTrue (stands_before a.spot b.spot) → a.number < b.number

-- the lines with their answers are a run
pub record IsRun (options : Options) (spots : List Spot) : Type 0 where
  pub numbered : IsNumbered (commits_of spots)
  pub right : AllByRecursion (λ spot. RightAnswer options spots spot spot.reading spot.answer) spots

-- the answers that make the status 1
abbrev pub is_marked : Answer → Bool
is_marked (answer.Committed revision identity) = false
is_marked (answer.Synced revision full) = false
is_marked (answer.Phase number) = false
is_marked (answer.Verdict revision word) = false
is_marked (answer.NoEndpoint revision) = true
is_marked (answer.NotYet revision) = true
is_marked (answer.Traced revision trace) = false
is_marked (answer.BadLine fault) = true
is_marked (answer.Refused refused) = true

-- the status of a run: 1 where an answer is a refusal, `notyet` or `noendpoint`, else 0
abbrev pub status_of : List Answer → ℕ
status_of answers = if list_any is_marked answers then 1 else 0

-- what each line of a script reads as
abbrev pub readings_of : List ℕ → List Reading
readings_of script = map reading_of (lines_of script)

-- **A run of the policy machine.** The text is the texts of one answer for each line, in order, and the
-- lines with their answers are a run, which has this status.
pub record IsRunOf (options : Options) (script written : List ℕ) (ended : ℕ) : Type 0 where
  pub answers : List Answer
  pub one_each : length answers ≡ length (lines_of script)
  pub text : written ≡ texts_of answers
  pub run : IsRun options (spots_of (zip (readings_of script) answers))
  pub status : ended ≡ status_of answers
