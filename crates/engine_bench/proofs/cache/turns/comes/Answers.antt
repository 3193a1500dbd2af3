use Rattle.pol_selcache.proofs.Coming.{exact_over_all, newest_changed}
use Rattle.engine_bench.proofs.cache.turns.comes.Goals as goal

pub returns-in-Ok-clause-exact : goal.returns-in-Ok-clause-exact
returns-in-Ok-clause-exact g c = λ _. exact_over_all c.args.identities.now c.change.new.self.live c.in-Ok.ensures.exact

pub returns-in-Ok-clause-newest : goal.returns-in-Ok-clause-newest
returns-in-Ok-clause-newest g c = λ _. newest_changed c.args.revision _ c.args.cache.now c.change.new.self c.in-Ok.ensures.changed c.requires.may.newer
