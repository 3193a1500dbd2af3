use Rattle.std.proofs.Common.{sym, subst}
use Rattle.pol_selcache.specs.Live.{AreExact}
use Rattle.pol_selcache.proofs.Coming.{rows_without_none}
use Rattle.pol_allocator.proofs.Preparing.{prepared_all}
use Rattle.pol_allocator.proofs.allocator.Allocator.plan_nothing.Goals as goal

pub plan-requires : goal.plan-requires
plan-requires g c = record {
  may = record {
    newer = c.requires.settled.newer;
    come_held = tt;
    gone_held = tt;
    apart = tt;
    exact = subst (λ rows. AreExact rows c.args.self.now.cache.live) (sym (rows_without_none c.args.self.now.rows)) c.requires.settled.exact;
  };
}

pub returns-clause-plan : goal.returns-clause-plan
returns-clause-plan g c = prepared_all c.args.self.now.rows c.args.revision c.plan.new.self.cache c.plan.result c.plan.ensures.plan
