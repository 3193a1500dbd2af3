use Rattle.std.proofs.Common.{◌≡◌, ℕ, Some, length, slice_get}
use Rattle.pol_prefix_table.specs.declared.walk.Reached.{Reached}
use Rattle.pol_prefix_table.specs.Starts.{HasReached, beginning}
use Rattle.pol_prefix_table.proofs.starts.fill.Given as goal

-- the starts of all places so far
abbrev pub invariant-loop-place : goal.invariant-loop-place
invariant-loop-place g l = record {
  each : (i : ℕ) (r : Reached) → slice_get l.starts.items i ≡ Some r → HasReached l.trie r × (r.to ≡ beginning g.B.Bits.family l.bits i);
  length : length l.starts.items ≡ l.place;
}
