use Rattle.std.proofs.Common.{sym}
use Rattle.pol_model.specs.PolicyMap.{peer_numbers, ports_keys}
use Rattle.pol_sets.specs.Sets.{set_given}
use Rattle.pol_distill.specs.RawKeys.{entries_for}
use Rattle.pol_entry_changes.specs.Given.{kind_of}
use Rattle.pol_entry_changes.proofs.PeerStays.{peer_more, peers_gone}
use Rattle.pol_entry_changes.proofs.staying.peers_stay.Goals as goal

pub loop-peer-preserved : goal.loop-peer-preserved
loop-peer-preserved c =
    peer_more (entries_for (kind_of c.args.one.now) (ports_keys c.args.dir 0 c.args.one.now.ports)) (peer_numbers (set_given c.args.was.now)) (peer_numbers (set_given c.args.is.now.rows))
    c.args.peers.now c.loop-peer.peer-index c.peer-item.result c.args.out.now c.loop-peer.out c.peer_stays.new.out
    c.loop-peer-test.true (sym c.peer-item.is) c.loop-peer.invariant c.in_ok-peer_stays.ensures

pub returns : goal.returns
returns c =
    peers_gone (entries_for (kind_of c.args.one.now) (ports_keys c.args.dir 0 c.args.one.now.ports)) (peer_numbers (set_given c.args.was.now)) (peer_numbers (set_given c.args.is.now.rows))
    c.args.peers.now c.loop-peer.peer-index c.args.out.now c.loop-peer.out c.loop-peer-test.false c.loop-peer.invariant
