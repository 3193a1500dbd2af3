use Rattle.std.proofs.Common.{is_some, sym, ap, ◌∙◌, arith}
use Rattle.pol_arena.specs.Pool.{nodes_in_use}
use Rattle.pol_arena.proofs.PoolLemmas.{IsKept-put, count-put}
use Rattle.pol_arena.proofs.SlotLemmas.{read_is, first_is_next, first_is_empty, empty_below, empty_slot, put_again, Updates-slot}
use Rattle.pol_arena.proofs.pool.Pool.put.Goals as goal

pub index_mut-requires : goal.index_mut-requires
index_mut-requires g c =
    omega (arith, empty_below c.self.inside.slots.items c.self.inside.first (first_is_empty _ _ _ _ c.self.invariant.sound (λ e. omega arith)))

pub fill-self-inside-requires : goal.fill-self-inside-requires
fill-self-inside-requires g c =
    let empty = first_is_empty _ _ _ _ c.self.invariant.sound (λ e. omega arith) in
    let read = read_is c.self.inside.slots.items c.self.inside.first _ (empty_below _ _ empty) c.index_mut.ensures.value in
    rw read (ap is_some (empty_slot c.self.inside.slots.items c.self.inside.first empty))

pub returns-clause-pool : goal.returns-clause-pool
returns-clause-pool g c =
    let empty = first_is_empty _ _ _ _ c.self.invariant.sound (λ e. omega arith) in
    let read = read_is c.self.inside.slots.items c.self.inside.first _ (empty_below _ _ empty) c.index_mut.ensures.value in
    rw (← c.self.view_is, c.fill-self-inside.ensures.slot)
    (put_again c.self.inside.slots.items c.self.inside.first c.self.inside.free c.self.inside.spare _ c.args.value c.self.invariant.sound (λ e. omega arith) (sym read ∙ c.fill-self-inside.ensures.next))

pub invariant_of-self-2 : goal.invariant_of-self-2
invariant_of-self-2 g c =
    let after = returns-clause-pool g c in
    rw (after, ← c.self.view_is) (IsKept-put _ c.args.value _ (rw (← c.self.view_is) at c.requires.spare) c.self.invariant)

pub returns-clause-node : goal.returns-clause-node
returns-clause-node g c = rw (← c.self.view_is) (sym (first_is_next c.self.inside.slots.items _ _ c.self.inside.spare (λ e. omega arith)))

pub returns-clause-updates : goal.returns-clause-updates
returns-clause-updates g c =
    rw (← c.self.view_is, c.fill-self-inside.ensures.slot)
    (Updates-slot c.self.inside.slots.items _ _ _ _ _ _ c.self.inside.first _ (empty_below c.self.inside.slots.items c.self.inside.first (first_is_empty _ _ _ _ c.self.invariant.sound (λ e. omega arith))))

pub returns-clause-count : goal.returns-clause-count
returns-clause-count g c =
    ap nodes_in_use (returns-clause-pool g c)
    ∙ rw (← c.self.view_is) (count-put _ _ _ c.args.value c.self.invariant.sound)

pub returns-clause-sound : goal.returns-clause-sound
returns-clause-sound g c = (invariant_of-self-2 g c).sound
