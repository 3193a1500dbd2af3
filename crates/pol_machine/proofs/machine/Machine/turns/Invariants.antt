use Rattle.std.proofs.Common.{◌≡◌, take}
use Rattle.pol_history.specs.Machine.{Machine, machine_from}
use Rattle.pol_machine.specs.Serial.{turns_at}
use Rattle.pol_machine.specs.Stands.{Stands, options_in}
use Rattle.pol_machine.proofs.machine.Machine.turns.Given as goal

-- the slots so far were taken and finished
abbrev pub invariant-loop-slot : goal.invariant-loop-slot
invariant-loop-slot l =
    (options_in l.self ≡ options_in l.initial.self)
    × ((m : Machine) → Stands l.initial.self m → Stands l.self (machine_from (options_in l.initial.self) m (turns_at (take l.slot-index l.slots))))
