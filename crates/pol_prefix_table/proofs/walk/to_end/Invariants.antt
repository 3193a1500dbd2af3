use Rattle.std.proofs.Common.{◌-◌, ◌+◌, ◌≤◌}
use Rattle.pol_prefix_table.specs.Trie.{StandsOver, IsBest, len_at}
use Rattle.pol_prefix_table.proofs.walk.to_end.Given as goal

abbrev pub invariant-loop-next : goal.invariant-loop-next
invariant-loop-next g l = record {
  stands : StandsOver l.trie l.to l.limit l.at;
  best : IsBest l.trie l.to l.at l.number;
  few : l.visits ≤ len_at l.trie l.at + 1;
}

abbrev pub decreases-loop-next : goal.decreases-loop-next
decreases-loop-next g l = l.limit - len_at l.trie l.at
