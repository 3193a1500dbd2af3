use Rattle.pol_connection_maps.proofs.kept.kept_ends.Goals as goal

pub kept_among-requires : goal.kept_among-requires
kept_among-requires c = record { before = c.args.before.now; are = c.in_ok-firsts.ensures; their = c.requires }
