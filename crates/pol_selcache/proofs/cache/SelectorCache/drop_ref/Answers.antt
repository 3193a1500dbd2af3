use Rattle.std.proofs.Common.{List, sym, subst}
use Rattle.pol_selcache.specs.Cache.{IsSound}
use Rattle.pol_selcache.specs.Live.{Live}
use Rattle.pol_selcache.proofs.Sound.{unreference_sound}
use Rattle.pol_selcache.proofs.cache.SelectorCache.drop_ref.Goals as goal

pub invariant_of-self : goal.invariant_of-self
invariant_of-self c =
    subst (λ (live : List Live). IsSound (record { live = live; next = c.self.inside.next; log = c.self.inside.log })) (sym c.unrefer.ensures.dropped)
    (unreference_sound c.self.inside.table c.self.inside.next c.self.invariant.live c.self.invariant.below c.args.selector c.self.inside.log c.self.invariant.log)

pub returns-clause-sound : goal.returns-clause-sound
returns-clause-sound c = invariant_of-self c
