use Rattle.pol_selcache.proofs.Coming.{newest_changed, one_may_go}
use Rattle.engine_bench.proofs.cache.turns.goes.Goals as goal

pub change-requires : goal.change-requires
change-requires g c = record { may = one_may_go c.args.number c.args.identities.now c.requires.held c.args.revision c.args.cache.now c.requires.newer c.requires.exact }

pub returns-in-Ok-clause-newest : goal.returns-in-Ok-clause-newest
returns-in-Ok-clause-newest g c = λ _. newest_changed c.args.revision _ c.args.cache.now c.change.new.self c.in-Ok.ensures.changed c.requires.newer
