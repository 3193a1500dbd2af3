use Rattle.pol_sessions.proofs.Hinted.{slots_in_use}
use Rattle.pol_sessions.proofs.line.commit.Goals as goal

pub returns-in-Ok-clause-slots : goal.returns-in-Ok-clause-slots
returns-in-Ok-clause-slots g c = λ session.
    slots_in_use g.N.NodeName.options c.args.pass.now.number c.args.pass.now.has.history c.commit.new.pass.has.history c.args.request c.in-Ok.done
    c.in-Ok.ensures.accepted
