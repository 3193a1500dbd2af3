use Rattle.std.proofs.Common.{◌∙◌}
use Rattle.pol_selcache.specs.Cache.{carried}
use Rattle.pol_selcache.proofs.cache.SelectorCache.change.Goals as goal

pub returns-clause-changed : goal.returns-clause-changed
returns-clause-changed g c =
    (c.plan.new.self.log.spare, c.carry_out.ensures.carried ∙ (λ i. carried (c.in_ok-plan.ensures.plan i) (c.plan.ensures.same i)))
