use Rattle.std.proofs.Common.{subst}
use Rattle.pol_history.specs.declared.machine.Event.TheVariants as step
use Rattle.pol_history.specs.Machine.{step_of}
use Rattle.pol_model.specs.declared.options.Options.{Options}
use Rattle.pol_machine.specs.Serial.{turn_of}
use Rattle.pol_machine.specs.Stands.{StepsTo, options_in}
use Rattle.pol_machine.proofs.Led.{finished, left}
use Rattle.pol_machine.proofs.machine.Machine.turn.Goals as goal

pub returns-in-Ok-clause-led : goal.returns-in-Ok-clause-led
returns-in-Ok-clause-led c m stands =
    let options = options_in c.args.self.now in
    let taken = c.in-Ok.ensures.step m stands in
    finished options m c.args.slot c.finish.new.self c.finish.result
    (subst (λ (o : Options). StepsTo o (step_of options m (step.Take c.args.slot)).1 (step.Finish c.args.slot) c.finish.new.self c.finish.result) c.take.ensures.options
    (c.finish.ensures.step (step_of options m (step.Take c.args.slot)).1 taken.1))

pub returns-in-Err-clause-led : goal.returns-in-Err-clause-led
returns-in-Err-clause-led c m stands = left (options_in c.args.self.now) m (turn_of c.args.slot) c.take.new.self (c.in-Err.ensures.step m stands)
