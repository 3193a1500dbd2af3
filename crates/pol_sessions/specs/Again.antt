-- A script that wasn't played is given back.
use Rattle.std.specs.Prelude.{⊤, ◌≡◌, List}
use Rattle.pol_script.specs.declared.command.Command.{Command}
use Rattle.pol_sessions.specs.declared.script.Stopped.{Stopped}
use Rattle.pol_sessions.specs.declared.script.Stopped.TheVariants as stopped

abbrev pub IsAgain : List (List (List Command)) → Stopped → Type 0
IsAgain phases (stopped.NoPlace again) = again.items ≡ phases
IsAgain phases stopped.Memory = ⊤
