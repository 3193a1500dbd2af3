-- Lines of a serial run.
use Rattle.std.specs.Prelude.{Ok, Err}
use Rattle.pol_script.specs.declared.command.Command.TheVariants as command
use Rattle.pol_script.specs.declared.line_fault.LineFault.TheVariants.{Json}
use Rattle.pol_run.specs.ExampleLines.{add_web, packet_to, web}
use Rattle.pol_run.specs.Spots.{Reading}

abbrev pub faulty : Reading
faulty = Err Json

abbrev pub adds : Reading
adds = Ok (command.Commit 1 add_web)

abbrev pub looks : Reading
looks = Ok (command.Look 1 (packet_to web))

abbrev pub asks_why : Reading
asks_why = Ok (command.Trace 1 (packet_to web))

abbrev pub syncs : Reading
syncs = Ok (command.Sync 1)

abbrev pub ends : Reading
ends = Ok command.Phase
