use Rattle.pol_addr.proofs.HexTexts.{read_addr_complete, read_addr_sound}
use Rattle.pol_addr.proofs.laws.address_texts_are_read.Goals as goal

pub returns : goal.returns
returns c = λ text addr. (read_addr_complete text addr, read_addr_sound text addr)
