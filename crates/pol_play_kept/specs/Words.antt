-- What the words of the command line ask for.
use Rattle.std.specs.Prelude.{ℕ, List, Option, None, Some, option_and_then}
use Rattle.pol_command_line.specs.Given.{words_given}
use Rattle.pol_command_line.specs.declared.task.Task.{Task}
use Rattle.pol_command_line.specs.declared.task.Task.TheVariants.{Play, Generate, Map, Audit, Crash}
use Rattle.pol_model.specs.declared.options.Options.{Options}

-- the options of a task that plays a script
abbrev pub playing : Options → Task → Option Options
playing options Play = Some options
playing options (Generate rounds) = None
playing options (Map name) = None
playing options Audit = None
playing options (Crash call) = None

-- the options, where the words fit and the lines of a script are to be answered
abbrev pub plays_with : List (List ℕ) → Option Options
plays_with words = option_and_then (λ given. playing given.options given.task) (words_given words)
