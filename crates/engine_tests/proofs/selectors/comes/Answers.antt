use Rattle.engine_tests.proofs.selectors.comes.Goals as goal

pub joins-requires : goal.joins-requires
joins-requires g c = record { may = c.in_ok-number.ensures.may c.args.revision c.args.cache.now c.requires.newer c.requires.exact }
