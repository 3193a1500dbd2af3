use Rattle.pol_run_laws.proofs.OneMore.{session_more}
use Rattle.pol_sessions.proofs.phase.more.Goals as goal

pub returns : goal.returns
returns g c = λ olds lines old own others last.
    rw (c.in_ok-push.ensures.items, c.in_ok-push-2.ensures.items)
    (session_more g.N.NodeName.options olds lines c.args.front.told.items c.args.front.passes.items old own c.args.back.answers c.args.back.pass others last)
