use Rattle.std.proofs.Common.{◌≤◌, ◌*◌}
use Rattle.pol_set_changes.specs.Log.{newest}
use Rattle.pol_selcache.specs.Live.{AreExact}
use Rattle.engine_bench.proofs.cache.turns.rounds.Given as goal

abbrev pub invariant-loop-i : goal.invariant-loop-i
invariant-loop-i g l = (newest l.cache.log ≤ l.i * 40) × AreExact l.identities l.cache.live
