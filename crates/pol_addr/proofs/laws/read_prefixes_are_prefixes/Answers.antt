use Rattle.pol_addr.proofs.PrefixTexts.{IsPrefix-read_prefix}
use Rattle.pol_addr.proofs.laws.read_prefixes_are_prefixes.Goals as goal

pub returns : goal.returns
returns c = IsPrefix-read_prefix
