use Rattle.pol_peers.proofs.Found.{number_lives}
use Rattle.pol_taken.proofs.known_peers.row_now.Goals as goal

pub set_at_now-requires : goal.set_at_now-requires
set_at_now-requires c = record { live = number_lives c.args.row.now.peer c.args.cache.now.live c.args.row.now.selector c.requires.number }
