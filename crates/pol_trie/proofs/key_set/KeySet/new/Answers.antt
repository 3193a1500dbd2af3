use Rattle.std.proofs.Common.{refl}
use Rattle.pol_trie.proofs.KeyKinds.{no_kinds}
use Rattle.pol_trie.proofs.key_set.KeySet.new.Goals as goal

pub returns : goal.returns
returns c = no_kinds _ refl c.new.ensures c.new-2.ensures c.new-3.ensures
