use Rattle.pol_sessions.proofs.NewNode.{one_each-so, script-played, those-handed_out}
use Rattle.pol_sessions.proofs.script.play_named.Goals as goal

pub play_beside-played-requires-clause-handed_out :
    goal.play_beside-played-requires-clause-handed_out
play_beside-played-requires-clause-handed_out g c κs within =
    those-handed_out g.N.NodeName.passes c.in-Ok-new-2.made.1.items c.in-Ok-new-2.ensures.those

pub play_beside-played-requires-clause-one_each : goal.play_beside-played-requires-clause-one_each
play_beside-played-requires-clause-one_each g c κs within =
    one_each-so c.args.settings.config.passes c.in-Ok-new-2.made.1.items c.args.phases.items c.in-Ok-new-2.ensures.count c.requires.one_each

pub returns-in-Ok-played-clause-played : goal.returns-in-Ok-played-clause-played
returns-in-Ok-played-clause-played g c =
    let made = c.in-Ok-new-2.ensures in let played = c.in-Ok-played.played in
    rw c.ended.ensures.told
    (script-played g.N.NodeName.options c.args.settings.config.passes g.N.NodeName.passes c.in-Ok-new-2.made.1.items c.args.phases.items played.told.items c.ended.result.last played.passes.items
    c.requires.sessions.0 made.count made.those made.nothing made.apart c.in-Ok-played.ensures.phases c.in-Ok-played.ensures.as_many c.ended.ensures.last)
