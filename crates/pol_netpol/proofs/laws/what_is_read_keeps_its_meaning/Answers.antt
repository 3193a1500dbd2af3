-- The law is a lemma.
use Rattle.pol_netpol.proofs.ReadKept.{read_keeps}
use Rattle.pol_netpol.proofs.laws.what_is_read_keeps_its_meaning.Goals as goal

pub returns : goal.returns
returns c = read_keeps
