use Rattle.pol_selcache.specs.Live.{AreExact}
use Rattle.engine_bench.proofs.cache.selectors.time_oldest.Given as goal

abbrev pub invariant-loop-round : goal.invariant-loop-round
invariant-loop-round g l = AreExact l.identities l.cache.live
