use Rattle.std.proofs.Common.{◌+◌, ap, ◌∙◌, arith}
use Rattle.pol_arena.specs.Pool.{nodes_in_use}
use Rattle.pol_arena.proofs.PoolLemmas.{IsKept-take, count-empty}
use Rattle.pol_arena.proofs.SlotLemmas.{used_within, free_fits, taken, Updates-slot}
use Rattle.pol_arena.proofs.pool.Pool.take.Goals as goal

pub overflow_add-self : goal.overflow_add-self
overflow_add-self g c =
    omega (arith, free_fits _ _ _ _ _ c.self.invariant.sound (rw (← c.self.view_is) at c.requires.in_use))

pub returns-clause-pool : goal.returns-clause-pool
returns-clause-pool g c =
    rw (← c.self.view_is, c.empty-value.ensures.slot)
    (taken c.self.inside.slots.items c.self.inside.first c.self.inside.free c.self.inside.spare c.args.node c.self.invariant.sound (rw (← c.self.view_is) at c.requires.in_use))

pub invariant_of-self : goal.invariant_of-self
invariant_of-self g c =
    rw (returns-clause-pool g c, ← c.self.view_is)
    (IsKept-take _ _ _ (rw (← c.self.view_is) at c.requires.in_use) c.self.invariant)

pub returns-clause-updates : goal.returns-clause-updates
returns-clause-updates g c =
    rw (← c.self.view_is, c.empty-value.ensures.slot)
    (Updates-slot _ _ _ _ _ _ _ _ _ (used_within _ _ (rw (← c.self.view_is) at c.requires.in_use)))

pub returns-clause-count : goal.returns-clause-count
returns-clause-count g c =
    ap (λ p. nodes_in_use p + 1) (returns-clause-pool g c) ∙ count-empty _ c.args.node c.requires.in_use

pub returns-clause-sound : goal.returns-clause-sound
returns-clause-sound g c = (invariant_of-self g c).sound
