-- What was taken is followed.
use Rattle.pol_slot_map.proofs.Keeping.{follows-start}
use Rattle.board_tests.proofs.gone.make.Goals as goal

pub returns-clause-follows : goal.returns-clause-follows
returns-clause-follows g c =
    let is = c.requires.taken in
    follows-start g.N.NodeName.options c.args.slot.now.has.history is.legal 0 c.args.taken.now is.is is.revision is.made
    c.in_ok-start.field-0 c.in_ok-start.ensures.started
