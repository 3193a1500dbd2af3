use Rattle.std.proofs.Common.{◌≡◌, ◌++◌, length}
use Rattle.std.specs.Vec.Iter.{into_iter_items}
use Rattle.pol_node.proofs.node.slots_of_passes.Given as goal

abbrev pub invariant-loop-pass : goal.invariant-loop-pass
invariant-loop-pass g l = record {
  many : length l.slots.items ≡ length l.yielded;
  all : l.yielded ++ into_iter_items l.pass-iterator ≡ l.fn.passes.items;
}
