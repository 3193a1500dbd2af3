use Rattle.std.proofs.Common.{refl, sym, ap, ◌∙◌}
use Rattle.pol_arena.specs.Slots.{value_of}
use Rattle.pol_arena.proofs.PoolLemmas.{IsKept-write}
use Rattle.pol_arena.proofs.SlotLemmas.{value_at, read_is, used_within, written}
use Rattle.pol_arena.proofs.pool.Pool.get_mut.Goals as goal

pub invariant_of-self-lent : goal.invariant_of-self-lent
invariant_of-self-lent g c w =
    let used = rw (← c.self.view_is) at c.requires.in_use in
    rw (written c.self.inside.slots.items c.self.inside.first c.self.inside.free c.self.inside.spare c.args.node w c.self.invariant.sound used) (IsKept-write _ c.args.node w _ used c.self.invariant)

pub returns : goal.returns
returns g c =
    let used = rw (← c.self.view_is) at c.requires.in_use in
    let read = read_is c.self.inside.slots.items c.args.node _ (used_within c.self.inside.slots.items c.args.node used) c.index_mut.ensures.value in (
      (refl {a = c.value_mut.result.ghost_name}, λ w. rw (← c.self.view_is) (written c.self.inside.slots.items c.self.inside.first c.self.inside.free c.self.inside.spare c.args.node w c.self.invariant.sound used)),
      record {
        writes_back = tt;
        value = rw (← c.self.view_is) (value_at c.self.inside.slots.items c.args.node ∙ ap value_of (sym read) ∙ c.value_mut.ensures.value);
        sound = rw (← c.self.view_is) c.self.invariant.sound;
      },
    )
