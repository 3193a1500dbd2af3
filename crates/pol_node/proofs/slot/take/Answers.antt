-- What is kept is of the history with what another has seen, too.
use Rattle.std.proofs.Common.{[]}
use Rattle.pol_history.proofs.Beginnings.{prefix_trans}
use Rattle.pol_history.proofs.Meetings.{passes-grow_whole}
use Rattle.pol_node.proofs.Keeping.{some_kept-later}
use Rattle.pol_node.proofs.slot.take.Goals as goal

pub take_for-taken-requires : goal.take_for-taken-requires
take_for-taken-requires g c = record {
  kept = some_kept-later g.N.NodeName.options c.args.pass.now.has.history c.learn.new.self.has.history c.args.kept.now c.learn.ensures.grows.grows.goes_on
      c.requires.kept;
}

pub returns-clause-grows : goal.returns-clause-grows
returns-clause-grows g c =
    passes-grow_whole g.N.NodeName.options c.args.pass.now c.learn.new.self c.take_for-taken.new.pass [] [] c.learn.ensures.grows c.take_for-taken.ensures.grows

pub returns-clause-learned : goal.returns-clause-learned
returns-clause-learned g c =
    prefix_trans c.args.seen c.learn.new.self.has.history c.take_for-taken.new.pass.has.history c.learn.ensures.learned
    c.take_for-taken.ensures.grows.whole.grows.goes_on
