use Rattle.pol_play_kept.proofs.Written.{options_are}
use Rattle.pol_play_kept.proofs.play.config_of.Goals as goal

pub returns-clause-same : goal.returns-clause-same
returns-clause-same c = options_are c.args.options c.in-Some.map_max c.in-Some.is
