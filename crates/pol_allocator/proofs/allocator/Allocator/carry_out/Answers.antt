use Rattle.std.proofs.Common.{◌≤◌, ◌<◌, sym, subst, arith}
use Rattle.pol_set_changes.specs.Log.{newest}
use Rattle.pol_selcache.specs.Cache.{Cache}
use Rattle.pol_allocator.specs.Held.{Held}
use Rattle.pol_selcache.proofs.Coming.{newest_carried}
use Rattle.pol_allocator.proofs.allocator.Allocator.carry_out.Goals as goal

pub returns-clause-newest : goal.returns-clause-newest
returns-clause-newest c =
    let before = subst (λ (held : Held). newest held.cache.log < c.args.plan.revision) (sym c.self.view_is) c.requires.fits.newer in
    subst (λ (cache : Cache). newest cache.log ≤ c.args.plan.revision) (sym c.carry_out.ensures.carried)
    (newest_carried c.args.plan c.self.inside.selectors (omega (arith, before)))
