-- Each direction of the law is a lemma.
use Rattle.pol_mapkey.proofs.Keys.{covers_is, covers-packet, covers-from_packets}
use Rattle.pol_mapkey.proofs.laws.covers_is_of_packets.Goals as goal

pub returns : goal.returns
returns c = λ a b. ((λ t. ((covers_is a b t).1, covers-packet a b t)), (λ h. covers-from_packets a b h.0 h.1))
