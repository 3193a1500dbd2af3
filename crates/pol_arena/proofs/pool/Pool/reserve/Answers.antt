use Rattle.std.proofs.Common.{arith}
use Rattle.pol_arena.proofs.SlotLemmas.{free_covered, kept_room}
use Rattle.pol_arena.proofs.pool.Pool.reserve.Goals as goal

pub overflow_sub-nodes : goal.overflow_sub-nodes
overflow_sub-nodes g c = omega (arith, free_covered _ _ _ _ c.self.invariant.sound)

pub invariant_of-self-2 : goal.invariant_of-self-2
invariant_of-self-2 g c =
    kept_room c.self.inside.slots.items _ c.self.inside.first c.self.inside.free c.self.inside.spare c.args.nodes _ _ c.in_ok-reserve.ensures.items c.self.invariant (omega arith) (rw (← c.self.view_is) at c.requires.fits) (omega (arith, c.in_ok-reserve.ensures.ok, c.in_ok-reserve.ensures.len))
