-- The law is a lemma.
use Rattle.pol_mapkey.proofs.Keys.{chain}
use Rattle.pol_mapkey.proofs.laws.keys_of_a_packet_form_a_chain.Goals as goal

pub returns : goal.returns
returns c = chain
