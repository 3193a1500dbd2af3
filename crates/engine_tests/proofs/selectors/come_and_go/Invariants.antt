use Rattle.std.proofs.Common.{◌≡◌, ℕ, ◌+◌, ◌≤◌}
use Rattle.pol_set_changes.specs.Log.{newest}
use Rattle.pol_selcache.specs.Live.{AreExact, is_live}
use Rattle.engine_tests.proofs.selectors.come_and_go.Given as goal

abbrev pub invariant-loop-turn : goal.invariant-loop-turn
invariant-loop-turn g l =
    (newest l.cache.log ≤ l.turn + l.turn) × AreExact l.identities l.cache.live × ((n : ℕ) → is_live n l.cache.live ≡ is_live n l.initial.cache.live)
