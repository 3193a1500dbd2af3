use Rattle.std.proofs.Common.{List, sym, subst}
use Rattle.pol_selcache.specs.Cache.{Cache, IsSound}
use Rattle.pol_selcache.specs.Live.{Live, AreExact}
use Rattle.pol_selcache.proofs.Sound.{found_lives, reference_exact, reference_sound, referred_below}
use Rattle.pol_selcache.proofs.cache.SelectorCache.add.Goals as goal

pub refer-requires : goal.refer-requires
refer-requires g c = record { live = found_lives _ c.in-Some.number c.self.inside.table (sym c.in-Some.ensures.number) }

pub invariant_of-self-in-Some : goal.invariant_of-self-in-Some
invariant_of-self-in-Some g c = record {
  live = c.refer.ensures.sound;
  below = referred_below c.refer.result c.in-Some.number c.self.inside.next c.self.inside.table c.refer.new.self c.refer.ensures.referred c.refer.ensures.err c.self.invariant.below;
  log = c.self.invariant.log;
}

pub returns-in_ok-refer-in-Some-clause-exact : goal.returns-in_ok-refer-in-Some-clause-exact
returns-in_ok-refer-in-Some-clause-exact g c =
    subst (AreExact c.args.identities.now) (sym c.in_ok-refer-in-Some.ensures.referred)
    (reference_exact c.args.identities.now c.in-Some.number c.self.inside.table (subst (λ (cache : Cache). AreExact c.args.identities.now cache.live) (sym c.self.view_is) c.requires.exact))

pub returns-in_ok-refer-in-Some-clause-sound : goal.returns-in_ok-refer-in-Some-clause-sound
returns-in_ok-refer-in-Some-clause-sound g c =
    subst (λ (live : List Live). IsSound (record { live = live; next = c.self.inside.next; log = c.self.inside.log })) (sym c.in_ok-refer-in-Some.ensures.referred)
    (reference_sound c.self.inside.table c.self.inside.next c.self.invariant.live c.self.invariant.below c.in-Some.number c.self.inside.log c.self.invariant.log)
