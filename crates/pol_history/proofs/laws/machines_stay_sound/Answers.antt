use Rattle.pol_history.proofs.Steps.{start_sound, step_keeps}
use Rattle.pol_history.proofs.laws.machines_stay_sound.Goals as goal

pub returns : goal.returns
returns c = record { start = start_sound; step = step_keeps }
