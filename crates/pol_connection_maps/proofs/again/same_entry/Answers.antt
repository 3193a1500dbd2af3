use Rattle.pol_connection_maps.proofs.Serving.{same_entries}
use Rattle.pol_connection_maps.proofs.again.same_entry.Goals as goal

pub returns-then-same_peers : goal.returns-then-same_peers
returns-then-same_peers c = λ same. same_entries c.args.one.now c.args.other.now (c.same_peers.ensures c.if-same_peers.true) (c.same_ports.ensures same)
