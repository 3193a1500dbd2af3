use Rattle.pol_selcache.proofs.Coming.{change_lives, exact_over_all, newest_changed}
use Rattle.engine_tests.proofs.selectors.joins.Goals as goal

pub returns-in-Ok : goal.returns-in-Ok
returns-in-Ok g c = record {
  exact = λ _. exact_over_all c.args.identities.now c.change.new.self.live c.in-Ok.ensures.exact;
  newest = λ _. newest_changed c.args.revision _ c.args.cache.now c.change.new.self c.in-Ok.ensures.changed c.requires.may.newer;
  live = change_lives c.change.result _ c.args.cache.now c.change.new.self c.change.ensures.changed c.change.ensures.err;
}

pub returns-in-Err-clause-live : goal.returns-in-Err-clause-live
returns-in-Err-clause-live g c = change_lives c.change.result _ c.args.cache.now c.change.new.self c.change.ensures.changed c.change.ensures.err
