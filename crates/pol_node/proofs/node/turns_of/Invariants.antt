use Rattle.std.proofs.Common.{◌≡◌, [], length}
use Rattle.pol_history.specs.Commits.{revision_of}
use Rattle.pol_history.specs.Grows.{PassGrows}
use Rattle.pol_history.specs.SlotTurns.{EachTells}
use Rattle.pol_node.proofs.node.turns_of.Given as goal

abbrev pub invariant-loop-number : goal.invariant-loop-number
invariant-loop-number g l = record {
  long : length l.turns.items ≡ l.number;
  grows : PassGrows g.N.NodeName.options l.initial.pass l.pass [];
  tell : EachTells g.N.NodeName.options l.initial.pass.has.history l.pass.has.history (revision_of l.initial.pass.has.history) 0 l.turns.items;
}
