use Rattle.std.proofs.Common.{sym, subst}
use Rattle.pol_selcache.specs.Cache.{MayPlan}
use Rattle.pol_selcache.specs.Live.{rows_without}
use Rattle.pol_allocator.specs.Held.{Held, Prepares}
use Rattle.pol_allocator.proofs.Preparing.{prepared}
use Rattle.pol_allocator.proofs.allocator.Allocator.plan.Goals as goal

pub plan-requires : goal.plan-requires
plan-requires g c = record {
  may = subst (λ (held : Held). MayPlan c.args.revision c.args.come.now c.args.gone.now held.rows held.cache) (sym c.self.view_is) c.requires.may;
}

pub returns-clause-plan : goal.returns-clause-plan
returns-clause-plan g c =
    subst (λ (held : Held). Prepares c.args.revision (rows_without c.args.gone.now held.rows) c.plan.new.self c.in_ok-plan.plan) c.self.view_is
    (prepared c.args.revision (rows_without c.args.gone.now c.self.inside.identities) c.self.inside.selectors c.plan.new.self c.in_ok-plan.plan
    c.in_ok-plan.ensures.plan c.in_ok-plan.ensures.fits c.in_ok-plan.ensures.exact c.plan.ensures.same)
