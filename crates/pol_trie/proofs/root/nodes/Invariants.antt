use Rattle.std.proofs.Common.{◌≤◌, ◌*◌, drop}
use Rattle.pol_trie.specs.Roots.{row_keys}
use Rattle.pol_trie.proofs.root.nodes.Given as goal

-- those of the rows from here on
abbrev pub invariant-loop-i : goal.invariant-loop-i
invariant-loop-i l = record {
  least : row_keys (drop l.i l.roots.entries) ≤ l.nodes;
  most : l.nodes ≤ 2 * row_keys (drop l.i l.roots.entries);
}
