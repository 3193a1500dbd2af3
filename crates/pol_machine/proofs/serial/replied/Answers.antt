use Rattle.std.proofs.Common.{[], ◌∷◌, ap}
use Rattle.pol_machine.specs.declared.asked.SerialAnswer.TheVariants as told
use Rattle.pol_machine.specs.Stands.{options_in}
use Rattle.pol_machine.proofs.Led.{left}
use Rattle.pol_machine.proofs.serial.replied.Goals as goal

pub returns-in-Ok-clause-led : goal.returns-in-Ok-clause-led
returns-in-Ok-clause-led g c m stands = (c.in-Ok.ensures.step m stands).1

pub returns-in-Ok-clause-said : goal.returns-in-Ok-clause-said
returns-in-Ok-clause-said g c m stands = ap told.Replied (c.in-Ok.ensures.step m stands).0

pub returns-in-Err-clause-led : goal.returns-in-Err-clause-led
returns-in-Err-clause-led g c m stands = left (options_in c.args.machine.now) m (c.args.event ∷ []) c.step.new.self (c.in-Err.ensures.step m stands)
