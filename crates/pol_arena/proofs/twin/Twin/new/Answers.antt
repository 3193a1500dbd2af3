use Rattle.pol_arena.proofs.TwinRunLemmas.{empty_sound}
use Rattle.pol_arena.proofs.twin.Twin.new.Goals as goal

pub returns-clause-sound : goal.returns-clause-sound
returns-clause-sound g c = rw (c.new.ensures.items, c.new-2.ensures.items) empty_sound
