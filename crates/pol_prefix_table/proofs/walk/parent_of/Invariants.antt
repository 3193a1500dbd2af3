use Rattle.std.proofs.Common.{◌-◌}
use Rattle.pol_prefix_table.specs.Trie.{StandsOver, len_at}
use Rattle.pol_prefix_table.proofs.walk.parent_of.Given as goal

abbrev pub invariant-loop-next : goal.invariant-loop-next
invariant-loop-next g l = StandsOver l.trie l.target l.target.len l.at

abbrev pub decreases-loop-next : goal.decreases-loop-next
decreases-loop-next g l = l.target.len - len_at l.trie l.at
