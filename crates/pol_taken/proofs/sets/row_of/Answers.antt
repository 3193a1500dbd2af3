use Rattle.pol_peers.proofs.Found.{number_lives}
use Rattle.pol_taken.proofs.sets.row_of.Goals as goal

pub set_at_now-requires : goal.set_at_now-requires
set_at_now-requires c = record { live = number_lives c.args.peer.now c.args.cache.now.live c.args.selector c.requires.selector }
