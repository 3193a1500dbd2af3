use Rattle.serde_json.specs.View.{view}
use Rattle.serde_json.specs.Errors.{IsMemory}
use Rattle.pol_script.specs.declared.line_fault.LineFault.TheVariants.{Json}
use Rattle.pol_script.proofs.Json.{json_read, json_none}
use Rattle.pol_script.proofs.line.json_of.Goals as goal

pub returns-in-Ok : goal.returns-in-Ok
returns-in-Ok c = json_read c.args.line.now (view c.in-Ok.value) Json c.in-Ok.ensures.ok.0 c.in-Ok.ensures.ok.1

pub returns-else-is_memory : goal.returns-else-is_memory
returns-else-is_memory c =
    let not_memory : ¬ IsMemory c.in-Err.error = λ memory. let said = c.is_memory.ensures.1 memory in absurd cc in
    json_none c.args.line.now Json (c.in-Err.ensures.err not_memory)
