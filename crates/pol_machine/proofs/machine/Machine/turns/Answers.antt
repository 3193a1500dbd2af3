use Rattle.std.proofs.Common.{◌<◌, ◌∙◌, length, refl, take, arith}
use Rattle.pol_history.specs.Machine.{machine_from}
use Rattle.pol_machine.specs.Serial.{turns_at}
use Rattle.pol_machine.specs.Stands.{options_in}
use Rattle.pol_machine.proofs.Led.{slot_done, slot_within}
use Rattle.pol_machine.proofs.machine.Machine.turns.Goals as goal

pub loop-slot-init : goal.loop-slot-init
loop-slot-init c = (refl, λ m stands. stands)

pub loop-slot-preserved : goal.loop-slot-preserved
loop-slot-preserved c =
    let options = options_in c.args.self.now in
    let slots = c.args.slots.now in
    let within : c.loop-slot.slot-index < length slots = omega arith in (
      c.turn.ensures.options ∙ c.loop-slot.invariant.0,
      λ m stands.
          slot_done options (options_in c.loop-slot.self) c.loop-slot.invariant.0 m slots c.loop-slot.slot-index _ c.turn.new.self within
          (c.in-Ok.ensures.led (machine_from options m (turns_at (take c.loop-slot.slot-index slots))) (c.loop-slot.invariant.1 m stands)),
    )

pub returns-in-Err-clause-led : goal.returns-in-Err-clause-led
returns-in-Err-clause-led c m stands =
    let options = options_in c.args.self.now in
    let slots = c.args.slots.now in
    let within : c.loop-slot.slot-index < length slots = omega arith in
    slot_within options (options_in c.loop-slot.self) c.loop-slot.invariant.0 m slots c.loop-slot.slot-index _ c.turn.new.self within
    (c.in-Err.ensures.led (machine_from options m (turns_at (take c.loop-slot.slot-index slots))) (c.loop-slot.invariant.1 m stands))
