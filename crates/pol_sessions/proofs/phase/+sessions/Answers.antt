use Rattle.std.proofs.Common.{rules}
use Rattle.pol_run_laws.specs.Seats.{HasGoneOn, HaveGoneOn}
use Rattle.pol_sessions.proofs.phase.+sessions.Goals as goal

pub play_at_once-returns : goal.play_at_once-returns
play_at_once-returns g t c =
    let front = c.in_ok-front.field-0 in let back = c.in_ok-back.field-0 in
    let others : HaveGoneOn g.N.NodeName.options c.args.others.passes.items c.args.others.lines.items front.told.items front.passes.items = search rules in
    let last : HasGoneOn g.N.NodeName.options c.args.last.pass c.args.last.lines back.answers back.pass = search rules in
    c.more.ensures c.args.others.passes.items c.args.others.lines.items c.args.last.pass c.args.last.lines others last
