use Rattle.std.proofs.Common.{◌-◌}
use Rattle.pol_trie.proofs.put.+common.Given as goal

abbrev pub decreases-common : goal.decreases-common
decreases-common l = 16 - l.port.len
