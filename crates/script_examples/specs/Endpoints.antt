-- Lines that add an endpoint without labels, by the text of its address.
use Rattle.std.specs.Prelude.{◌≡◌, ℕ, List, [], codes, None, Result, Ok}
use Rattle.pol_addr.specs.declared.address.Addr.{Addr}
use Rattle.pol_model.specs.declared.request.Request.TheVariants.{AddEndpoint}
use Rattle.pol_script.specs.Reading.{read_object}
use Rattle.pol_script.specs.declared.command.Command.{Command}
use Rattle.pol_script.specs.declared.command.Command.TheVariants.{Commit}
use Rattle.pol_script.specs.declared.line_fault.LineFault.{LineFault}
use Rattle.script_examples.specs.Printed.{endpoint_line}

abbrev pub at_address : List ℕ → Result Command LineFault
at_address text = read_object (endpoint_line None (codes "a") [] text)

-- the text is read as this address
abbrev pub IsReadAt : List ℕ → Addr → Type 0
IsReadAt text address = at_address text ≡ Ok (Commit 1 (AddEndpoint (codes "a") [] address))
