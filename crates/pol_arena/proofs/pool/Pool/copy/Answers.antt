use Rattle.std.proofs.Common.{◌∙◌, arith}
use Rattle.pol_arena.proofs.SlotLemmas.{free_covered, kept_room}
use Rattle.pol_arena.proofs.pool.Pool.copy.Goals as goal

pub overflow_sub-room : goal.overflow_sub-room
overflow_sub-room g c = free_covered _ _ _ _ c.self.invariant.sound

pub invariant_of-result : goal.invariant_of-result
invariant_of-result g c =
    kept_room c.self.inside.slots.items _ c.self.inside.first c.self.inside.free c.self.inside.spare c.self.inside.spare _ _ (c.in_ok-copied.ensures.items ∙ c.as_slice.ensures.value) c.self.invariant (omega arith) c.self.invariant.sound.fits (omega (arith, c.in_ok-copied.ensures.capacity))
