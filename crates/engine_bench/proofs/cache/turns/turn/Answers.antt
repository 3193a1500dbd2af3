use Rattle.engine_bench.proofs.cache.turns.turn.Goals as goal

pub comes-requires : goal.comes-requires
comes-requires g c = record { may = c.in_ok-number.ensures.may c.args.revision c.args.cache.now c.requires.newer c.requires.exact }
