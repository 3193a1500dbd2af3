-- Where the lines of a run stand: each in its phase, and each command in its session. Within a phase the
-- sessions run at the same time, each in its own order, and a phase begins when the one before it ended.
use Rattle.std.specs.Prelude.{ℕ, ◌+◌, ◌==◌, ◌&&◌, ◌||◌, nat_lt, Bool, false, List, [], ◌∷◌, Option, None, Some, Result, Ok, Err}
use Rattle.pol_answer.specs.declared.answer.Answer.{Answer}
use Rattle.pol_script.specs.declared.command.Command.{Command}
use Rattle.pol_script.specs.declared.command.Command.TheVariants as command
use Rattle.pol_script.specs.declared.line_fault.LineFault.{LineFault}

-- what a line reads as
abbrev pub Reading : Type 0
Reading = Result Command LineFault

-- a line as it was read, with its answer
abbrev pub Line : Type 0
Line = Reading × Answer

-- the same, where it stands
pub record Spot : Type 0 where
  -- its index in the script, from 0
  pub index : ℕ
  -- its phase, from 1
  pub phase : ℕ
  pub reading : Reading
  pub answer : Answer

-- the phase of the next line: a `phase` line ends the phase that it stands in
abbrev pub phase_after : ℕ → Reading → ℕ
phase_after phase (Ok command.Phase) = phase + 1
phase_after phase other = phase

-- the lines, where the first of them has this index and this phase
abbrev pub spots_from : ℕ → ℕ → List Line → List Spot
spots_from index phase [] = []
spots_from index phase (line ∷ lines) =
    record { index = index; phase = phase; reading = line.0; answer = line.1 }
    ∷ spots_from (index + 1) (phase_after phase line.0) lines

abbrev pub spots_of : List Line → List Spot
spots_of lines = spots_from 0 1 lines

-- the session of a line; a `phase` line and a faulty line belong to none
abbrev pub session_of : Reading → Option ℕ
session_of (Err fault) = None
session_of (Ok (command.Commit session request)) = Some session
session_of (Ok (command.Look session query)) = Some session
session_of (Ok (command.Trace session query)) = Some session
session_of (Ok (command.Sync session)) = Some session
session_of (Ok command.Phase) = None

-- both belong to one session
abbrev pub shares : Option ℕ → Option ℕ → Bool
shares None other = false
shares (Some session) None = false
shares (Some session) (Some other) = session == other

-- the first line stands earlier in the session of the second
abbrev pub earlier_in_session : Spot → Spot → Bool
earlier_in_session a b = nat_lt a.index b.index && shares (session_of a.reading) (session_of b.reading)

-- the first line stands before the second: earlier in its session, or in an earlier phase
abbrev pub stands_before : Spot → Spot → Bool
stands_before a b = earlier_in_session a b || nat_lt a.phase b.phase
