use Rattle.pol_sanitize.proofs.Bindings.{peer_matches}
use Rattle.pol_sanitize.proofs.laws.peers.Goals as goal

pub returns-clause-own_namespace : goal.returns-clause-own_namespace
returns-clause-own_namespace c = peer_matches
