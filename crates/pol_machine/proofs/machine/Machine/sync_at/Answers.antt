use Rattle.std.proofs.Common.{IfOk, subst}
use Rattle.pol_history.specs.Machine.{Machine, machine_from}
use Rattle.pol_model.specs.declared.options.Options.{Options}
use Rattle.pol_machine.specs.Serial.{ListsRows, turns_at}
use Rattle.pol_machine.specs.Stands.{options_in}
use Rattle.pol_machine.proofs.Led.{led_all}
use Rattle.pol_machine.proofs.machine.Machine.sync_at.Goals as goal

pub returns-in-Ok-clause-led : goal.returns-in-Ok-clause-led
returns-in-Ok-clause-led c m stands =
    led_all (options_in c.args.self.now) m (turns_at c.args.slots.now) c.turns.new.self c.full.result (c.in-Ok.ensures.led m stands)

pub returns-in-Ok-clause-full : goal.returns-in-Ok-clause-full
returns-in-Ok-clause-full c m stands =
    let options = options_in c.args.self.now in
    let after : Machine = machine_from options m (turns_at c.args.slots.now) in
    subst (λ (o : Options). IfOk c.full.result (ListsRows o after.history)) c.turns.ensures.options (c.full.ensures after (c.in-Ok.ensures.led m stands))
