-- What the words of the command line ask for.
use Rattle.std.specs.Prelude.{ℕ, Bool, true, false, List, Option, None, Some, option_and_then}
use Rattle.std.specs.Option.{option_map_or}
use Rattle.pol_model.specs.declared.options.Options.{Options}
use Rattle.pol_command_line.specs.declared.task.Task.{Task}
use Rattle.pol_command_line.specs.declared.task.Task.TheVariants.{Play, Generate, Map, Audit, Crash}
use Rattle.pol_command_line.specs.Given.{words_given}

-- ---- a script that is played

abbrev playing : Options → Task → Option Options
playing options Play = Some options
playing options (Generate rounds) = None
playing options (Map name) = None
playing options Audit = None
playing options (Crash call) = None

-- the options, where the words fit and the lines of a script are to be answered
abbrev pub reads_with : List (List ℕ) → Option Options
reads_with words = option_and_then (λ given. playing given.options given.task) (words_given words)

-- the options, where no map has a limit
abbrev pub without_limit : Options → Options
without_limit options = record { mode = options.mode; localhost = options.localhost; map_max = None }

-- ---- a script that is generated

-- its options and rounds
pub record ScriptToMake : Type 0 where
  pub options : Options
  pub rounds : ℕ

abbrev generating : Options → Task → Option ScriptToMake
generating options Play = None
generating options (Generate rounds) = Some (record { options = options; rounds = rounds })
generating options (Map name) = None
generating options Audit = None
generating options (Crash call) = None

-- the options and the rounds, where the words fit and a script is to be generated
abbrev pub generates : List (List ℕ) → Option ScriptToMake
generates words = option_and_then (λ given. generating given.options given.task) (words_given words)

-- ---- a map that is written

-- the options and the name of the endpoint; the map has no limit
pub record MapToWrite : Type 0 where
  pub options : Options
  pub name : List ℕ

abbrev mapping : Options → Task → Option MapToWrite
mapping options Play = None
mapping options (Generate rounds) = None
mapping options (Map name) = Some (record { options = without_limit options; name = name })
mapping options Audit = None
mapping options (Crash call) = None

-- the options and the name, where the words fit and the map of an endpoint is to be written
abbrev pub maps : List (List ℕ) → Option MapToWrite
maps words = option_and_then (λ given. mapping given.options given.task) (words_given words)

-- ---- two tables that are compared

abbrev is_audit : Task → Bool
is_audit Play = false
is_audit (Generate rounds) = false
is_audit (Map name) = false
is_audit Audit = true
is_audit (Crash call) = false

-- whether the words fit and two tables are to be compared
abbrev pub audits : List (List ℕ) → Bool
audits words = option_map_or (λ given. is_audit given.task) (words_given words) false

-- ---- a crash that is drilled

-- the options, and the call of the disk that is the first to fail
pub record CrashToDrill : Type 0 where
  pub options : Options
  pub call : ℕ

abbrev drilling : Options → Task → Option CrashToDrill
drilling options Play = None
drilling options (Generate rounds) = None
drilling options (Map name) = None
drilling options Audit = None
drilling options (Crash call) = Some (record { options = options; call = call })

-- the options and the call, where the words fit and a crash is to be drilled
abbrev pub drills : List (List ℕ) → Option CrashToDrill
drills words = option_and_then (λ given. drilling given.options given.task) (words_given words)

-- ---- all of them

abbrev is_read : Task → Bool
is_read Play = true
is_read (Generate rounds) = false
is_read (Map name) = true
is_read Audit = true
is_read (Crash call) = true

-- whether the words fit and the source is to be read
abbrev pub reads_source : List (List ℕ) → Bool
reads_source words = option_map_or (λ given. is_read given.task) (words_given words) false
