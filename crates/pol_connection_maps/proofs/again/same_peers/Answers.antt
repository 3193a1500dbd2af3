use Rattle.std.proofs.Common.{sym, ◌∙◌}
use Rattle.pol_rule.proofs.Equality.{peers_eq-Decides}
use Rattle.pol_connection_maps.proofs.again.same_peers.Goals as goal

pub returns : goal.returns
returns c = λ same. (peers_eq-Decides c.args.one.now c.args.other.now).0 (sym c.eq.ensures ∙ same)
