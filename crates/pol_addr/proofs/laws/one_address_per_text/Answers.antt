use Rattle.pol_addr.proofs.HexTexts.{writes_one_addr}
use Rattle.pol_addr.proofs.laws.one_address_per_text.Goals as goal

pub returns : goal.returns
returns c = writes_one_addr
