use Rattle.std.proofs.Common.{List, ap, sym, subst, ◌∙◌}
use Rattle.std.specs.Arc.{arc_value}
use Rattle.pol_set_changes.specs.Log.{Log}
use Rattle.pol_selcache.specs.Cache.{Cache, IsSound}
use Rattle.pol_selcache.specs.Live.{Live}
use Rattle.pol_selcache.specs.Moving.{one_carried}
use Rattle.pol_selcache.specs.Planned.{planned_of}
use Rattle.pol_selcache.proofs.Sound.{set_sound}
use Rattle.pol_selcache.proofs.cache.SelectorCache.carry_one.Goals as goal

pub invariant_of-self : goal.invariant_of-self
invariant_of-self c =
    subst (λ (live : List Live). IsSound (record { live = live; next = c.self.inside.next; log = c.record.new.self })) (sym c.put_set-next.ensures.put)
    (set_sound c.self.inside.table c.self.inside.next c.self.invariant.live c.self.invariant.below c.args.change.selector (arc_value c.args.change.set) c.record.new.self c.record.ensures.sound)

pub returns-clause-carried : goal.returns-clause-carried
returns-clause-carried c =
    let give : List Live → Log → Cache = λ live log. record { live = live; next = c.self.inside.next; log = log } in
    (λ i. give (c.put_set-next.ensures.put i) (c.record.ensures.log i))
    ∙ ap (λ cache. one_carried c.args.revision cache (planned_of c.args.change)) c.self.view_is

pub returns-clause-sound : goal.returns-clause-sound
returns-clause-sound c = invariant_of-self c
