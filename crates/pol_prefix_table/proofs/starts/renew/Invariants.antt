use Rattle.std.proofs.Common.{◌≡◌, ℕ, ◌<◌, ◌≤◌, Some, length, slice_get}
use Rattle.pol_addr.specs.Address.{bits_of}
use Rattle.pol_prefix_table.specs.declared.walk.Reached.{Reached}
use Rattle.pol_prefix_table.specs.Starts.{HasReached, AreStartsOutside}
use Rattle.pol_prefix_table.proofs.starts.renew.Given as goal

-- the starts so far are right, none is lost, and those behind don't begin before the prefix
abbrev pub invariant-loop-i : goal.invariant-loop-i
invariant-loop-i g l = record {
  done : (j : ℕ) (r : Reached) → j < l.i → slice_get l.starts.items j ≡ Some r → HasReached l.trie r;
  behind : (j : ℕ) (r : Reached) → l.i ≤ j → slice_get l.starts.items j ≡ Some r → bits_of l.over.addr ≤ bits_of r.to.addr;
  outside : AreStartsOutside g.B.Bits.family l.trie l.over l.starts.items;
  length : length l.starts.items ≡ length l.fn.starts.items;
}
