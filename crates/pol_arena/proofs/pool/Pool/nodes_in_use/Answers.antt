use Rattle.std.proofs.Common.{arith}
use Rattle.pol_arena.proofs.SlotLemmas.{slots_counted}
use Rattle.pol_arena.proofs.pool.Pool.nodes_in_use.Goals as goal

pub overflow_sub-result : goal.overflow_sub-result
overflow_sub-result g c = omega (arith, slots_counted _ _ _ _ c.self.invariant.sound)

pub returns-clause-count : goal.returns-clause-count
returns-clause-count g c = rw (← c.self.view_is) (omega (arith, slots_counted _ _ _ _ c.self.invariant.sound))
