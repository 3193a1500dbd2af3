use Rattle.std.proofs.Common.{sym}
use Rattle.pol_peers.proofs.Found.{number_lives}
use Rattle.pol_peers.proofs.Holds.{dropped_less, has_selector}
use Rattle.pol_peers.proofs.Refs.{ref_lost}
use Rattle.pol_peers.proofs.drop.drop_peer.Goals as goal

pub drop_ref-requires : goal.drop_ref-requires
drop_ref-requires c = record { live = number_lives c.args.peer.now c.args.cache.now.live c.in-Some.selector (sym c.in-Some.ensures.number) }

pub returns-in-Some-clause-dropped : goal.returns-in-Some-clause-dropped
returns-in-Some-clause-dropped c =
    rw c.drop_ref.ensures.dropped (dropped_less c.args.peer.now c.in-Some.selector c.args.cache.now.live c.selector_of.ensures.sound.live (sym c.in-Some.ensures.number))

pub returns-in-Some-clause-loses : goal.returns-in-Some-clause-loses
returns-in-Some-clause-loses c = rw c.drop_ref.ensures.dropped (ref_lost c.in-Some.selector c.args.cache.now c.selector_of.ensures.sound.live)

pub returns-in-None-clause-dropped : goal.returns-in-None-clause-dropped
returns-in-None-clause-dropped c = absurd (has_selector c.args.peer.now c.args.cache.now.live c.requires.held (sym c.in-None.ensures.number))
