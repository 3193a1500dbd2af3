use Rattle.std.proofs.Common.{◌≡◌, length}
use Rattle.std.specs.Vec.Iter.{into_iter_items, into_iter_len}
use Rattle.pol_selcache.specs.Moving.{each_carried}
use Rattle.pol_selcache.specs.Planned.{planned_in}
use Rattle.pol_selcache.proofs.Carried.{Going}
use Rattle.pol_selcache.proofs.cache.SelectorCache.carry_all.Given as goal

abbrev pub invariant-loop-change : goal.invariant-loop-change
invariant-loop-change l =
    (goal.iterator-loop-change).can_next l.change-iterator ×
    (goal.iterator-loop-change).is_finite l.change-iterator ×
    (into_iter_len l.change-iterator ≡ length (into_iter_items l.change-iterator)) ×
    Going l.revision (into_iter_items l.change-iterator) l.self (each_carried l.revision (planned_in l.fn.changes.items) l.initial.self)
