use Rattle.std.proofs.Common.{ap, subst, sym}
use Rattle.pol_selcache.specs.Cache.{IsPlanFor}
use Rattle.pol_store.specs.Store.{Stored}
use Rattle.pol_allocator.specs.Held.{Held}
use Rattle.pol_store.proofs.Kept.{listed_carried, told_still}
use Rattle.pol_store.proofs.store.Store.accept.Goals as goal

pub invariant_of-self : goal.invariant_of-self
invariant_of-self c =
    let own = subst (λ (t : Stored). IsPlanFor c.args.plan t.cache) (sym c.self.view_is) c.requires.fits in (
      c.self.invariant.0,
      c.self.invariant.1,
      c.self.invariant.2,
      told_still c.self.inside.endpoints.list c.self.inside.numbers.rows c.carry_out.new.self.rows c.self.inside.addresses (ap (λ (h : Held). h.rows) c.carry_out.ensures.carried) c.self.invariant.3,
      listed_carried c.self.inside.numbers.cache c.carry_out.new.self.cache c.self.inside.kept c.args.plan c.fits_together.ensures.sound own (ap (λ (h : Held). h.cache) c.carry_out.ensures.carried) c.self.invariant.4,
    )
