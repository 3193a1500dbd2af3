use Rattle.std.proofs.Common.{◌≡◌}
use Rattle.pol_selcache.specs.Live.{AreExact}
use Rattle.engine_bench.proofs.cache.selectors.add_each.Given as goal

abbrev pub invariant-loop-peer : goal.invariant-loop-peer
invariant-loop-peer g l = AreExact l.identities l.cache.live × (l.cache.log ≡ l.initial.cache.log)
