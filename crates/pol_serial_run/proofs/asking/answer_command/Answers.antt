use Rattle.std.proofs.Common.{IfOk, Ok, sym, subst}
use Rattle.pol_machine.specs.Serial.{IsSaid}
use Rattle.pol_machine.specs.Stands.{options_in}
use Rattle.pol_machine.specs.declared.asked.Asked.TheVariants.{Explain}
use Rattle.pol_script.specs.declared.command.Command.{Command}
use Rattle.pol_script.specs.declared.command.Command.TheVariants as command
use Rattle.pol_serial_run.specs.Asking.{IsToldAs}
use Rattle.pol_serial_run.specs.SerialRun.{IsLineAnswer}
use Rattle.pol_serial_run.proofs.Telling.{trace_told, weaker}
use Rattle.pol_serial_run.proofs.asking.answer_command.Goals as goal

pub returns-in-Trace-clause-told : goal.returns-in-Trace-clause-told
returns-in-Trace-clause-told g c m stands =
    let options = options_in c.args.machine.now in
    let session = c.in-Trace.session in
    let query = c.in-Trace.query in
    subst (λ (asked : Command). IfOk c.ask-in-Trace.result (IsLineAnswer options m c.args.phase (Ok asked))) (sym c.in-Trace.is)
    (weaker _ (IsToldAs (IsSaid options m (Explain query))) (IsLineAnswer options m c.args.phase (Ok (command.Trace session query))) c.ask-in-Trace.result
    (λ told is. trace_told options m query told is) (c.ask-in-Trace.ensures.told m stands))
