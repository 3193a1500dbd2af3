-- Which lists of words fit the command line, and what they give.
use Rattle.std.specs.Prelude.{◌≡◌, ℕ, ◌≤◌, Bool, true, false, if◌then◌else◌, List, [], ◌∷◌, codes, Option, None, Some, is_some, option_map, option_and_then}
use Rattle.std.specs.Str.{bytes_eq}
use Rattle.std.specs.Str.Parse.{digits_value, without_leading_plus}
use Rattle.clap.specs.Words.{Row, Text, first_of, fault_of, matches_of}
use Rattle.clap.specs.Kinds.{Kinds}
use Rattle.clap.specs.ValueTests.{is_unsigned_in}
use Rattle.pol_model.specs.declared.options.Mode.{Mode}
use Rattle.pol_model.specs.declared.options.Mode.TheVariants.{Default, Always, Never}
use Rattle.pol_command_line.specs.declared.TheConstants.{MAP_MAX}
use Rattle.pol_command_line.specs.declared.Words.{Words}
use Rattle.pol_command_line.specs.declared.task.Task.{Task}
use Rattle.pol_command_line.specs.declared.task.Task.TheVariants.{Play, Generate, Map, Audit, Crash}
use Rattle.pol_command_line.specs.Grammar.{grammar}

-- the number that a text writes, where it is from the least to the greatest
abbrev pub number_in : ℕ → ℕ → Text → Option ℕ
number_in least greatest text =
    if is_unsigned_in least greatest text then Some (digits_value 10 (without_leading_plus text)) else None

-- Cilium, "Policy Enforcement Modes"
abbrev pub mode_named : Text → Option Mode
mode_named text =
    if bytes_eq text (codes "default") then Some Default
    else (if bytes_eq text (codes "always") then Some Always
    else (if bytes_eq text (codes "never") then Some Never
    else None))

-- whether the local host may always come in (Cilium, `--allow-localhost`)
abbrev pub localhost_named : Text → Option Bool
localhost_named text =
    if bytes_eq text (codes "always") then Some true
    else (if bytes_eq text (codes "policy") then Some false
    else None)

-- an option that may be left out
abbrev pub if_given : {A : Type 0} → (Text → Option A) → Option Text → Option (Option A)
if_given read None = Some None
if_given read (Some text) = option_map Some (read text)

-- whether an option without a value is given
abbrev pub is_set : Option Text → Bool
is_set None = false
is_set (Some text) = bytes_eq text (codes "true")

-- ---- what the option of a name says

abbrev pub workers_in : List Row → Option ℕ
workers_in rows = option_and_then (number_in 0 8) (first_of (codes "workers") rows)

abbrev pub mode_in : List Row → Option Mode
mode_in rows = option_and_then mode_named (first_of (codes "enable-policy") rows)

abbrev pub localhost_in : List Row → Option Bool
localhost_in rows = option_and_then localhost_named (first_of (codes "allow-localhost") rows)

-- the most entries of a map that is published (Cilium, `bpf-policy-map-max`)
abbrev pub map_max_in : List Row → Option (Option ℕ)
map_max_in rows = if_given (number_in 256 65536) (first_of (codes "policy-map-max") rows)

abbrev pub generate_in : List Row → Option (Option ℕ)
generate_in rows = if_given (number_in 1 10000) (first_of (codes "generate") rows)

abbrev pub map_in : List Row → Option Text
map_in rows = first_of (codes "map") rows

abbrev pub audit_in : List Row → Bool
audit_in rows = is_set (first_of (codes "audit") rows)

-- the call of a disk that is the first to fail
abbrev pub crash_in : List Row → Option (Option ℕ)
crash_in rows = if_given (number_in 1 1000000) (first_of (codes "crash-at") rows)

-- ---- what is to be done

-- a script is played, unless one of the four others is asked for, and no two of them may be
abbrev pub task_of : Option ℕ → Option Text → Bool → Option ℕ → Option Task
task_of None None false None = Some Play
task_of (Some rounds) None false None = Some (Generate rounds)
task_of None (Some name) false None = Some (Map name)
task_of None None true None = Some Audit
task_of None None false (Some call) = Some (Crash call)
task_of _ _ _ _ = None

-- what is to be done, where the numbers that were given are in range
abbrev pub task_asked : Option (Option ℕ) → Option Text → Bool → Option (Option ℕ) → Option Task
task_asked (Some rounds) name audit (Some call) = task_of rounds name audit call
task_asked _ _ _ _ = None

abbrev pub task_in : List Row → Option Task
task_in rows = task_asked (generate_in rows) (map_in rows) (audit_in rows) (crash_in rows)

-- a script that is to be generated has 1 to 10,000 rounds, and a crash comes at one of the calls 1 to 1,000,000
abbrev pub IsInRange : Task → Type 0
IsInRange Play = Unit {0}
IsInRange (Generate rounds) = (1 ≤ rounds) × (rounds ≤ 10000)
IsInRange (Map name) = Unit {0}
IsInRange Audit = Unit {0}
IsInRange (Crash call) = (1 ≤ call) × (call ≤ 1000000)

-- ---- the limit of maps

-- the one that is asked for, else the default; beside a generated script none may be asked for
abbrev pub limit_of : Task → Option ℕ → Option ℕ
limit_of task None = Some MAP_MAX
limit_of Play (Some limit) = Some limit
limit_of (Generate rounds) (Some limit) = None
limit_of (Map name) (Some limit) = Some limit
limit_of Audit (Some limit) = Some limit
limit_of (Crash call) (Some limit) = Some limit

-- a script that is to be generated has the default
abbrev pub HasDefault : Task → Option ℕ → Type 0
HasDefault Play limit = Unit {0}
HasDefault (Generate rounds) limit = limit ≡ Some MAP_MAX
HasDefault (Map name) limit = Unit {0}
HasDefault Audit limit = Unit {0}
HasDefault (Crash call) limit = Unit {0}

-- ---- all of them

abbrev limited : ℕ → Mode → Bool → Task → ℕ → Words
limited workers mode localhost task limit = record {
  options = record { mode = mode; localhost = localhost; map_max = Some limit };
  workers = workers;
  task = task;
}

abbrev pub words_of : Option ℕ → Option Mode → Option Bool → Option (Option ℕ) → Option Task → Option Words
words_of (Some workers) (Some mode) (Some localhost) (Some asked) (Some task) = option_map (limited workers mode localhost task) (limit_of task asked)
words_of _ _ _ _ _ = None

abbrev pub words_in : List Row → Option Words
words_in rows = words_of (workers_in rows) (mode_in rows) (localhost_in rows) (map_max_in rows) (task_in rows)

abbrev pub words_without : Kinds → List Text → Option Words
words_without [] words = words_in (matches_of grammar words)
words_without (kind ∷ kinds) words = None

-- What the words give, where they fit: clap finds no fault in them, and each option has a value of its own.
abbrev pub words_given : List Text → Option Words
words_given words = words_without (fault_of grammar words) words

abbrev pub words_fit : List Text → Bool
words_fit words = is_some (words_given words)
