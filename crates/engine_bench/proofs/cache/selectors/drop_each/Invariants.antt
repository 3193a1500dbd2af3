use Rattle.pol_selcache.specs.Live.{AreExact}
use Rattle.engine_bench.proofs.cache.selectors.drop_each.Given as goal

abbrev pub invariant-loop-peer : goal.invariant-loop-peer
invariant-loop-peer l = AreExact l.identities l.cache.live
