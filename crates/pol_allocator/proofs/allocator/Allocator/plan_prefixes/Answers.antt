use Rattle.std.proofs.Common.{sym, subst}
use Rattle.pol_selcache.specs.Live.{AreExact}
use Rattle.pol_selcache.proofs.Coming.{rows_without_none}
use Rattle.pol_allocator.proofs.allocator.Allocator.plan_prefixes.Goals as goal

pub plan_moves-requires : goal.plan_moves-requires
plan_moves-requires g c = record {
  once = c.requires.once;
  newer = c.requires.settled.newer;
  held = tt;
  stay = tt;
  exact = subst (λ rows. AreExact rows c.args.self.now.cache.live) (sym (rows_without_none c.args.self.now.rows)) c.requires.settled.exact;
}
