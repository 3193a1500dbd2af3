-- A script that was cut.
use Rattle.std.specs.Prelude.{◌≡◌, ℕ, List, map}
use Rattle.pol_run.specs.Spots.{Reading}
use Rattle.pol_run_laws.specs.Cut.{script_of}
use Rattle.pol_phases.specs.declared.cut_script.CutScript.{CutScript}
use Rattle.pol_phases.specs.Marks.{mark_of}

-- the script is the cut of these lines, for so many sessions: the commands of each in each phase, and a mark of each line
pub record IsCutOf (sessions : ℕ) (lines : List Reading) (script : CutScript) : Type 0 where
  pub phases : script.phases.items ≡ script_of sessions lines
  pub marks : script.marks ≡ map mark_of lines
