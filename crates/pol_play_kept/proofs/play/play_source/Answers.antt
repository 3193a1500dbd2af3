use Rattle.std.proofs.Common.{ℕ, List, subst}
use Rattle.pol_play_kept.specs.Played.{Plays}
use Rattle.pol_play_kept.proofs.Kept.{still}
use Rattle.pol_play_kept.proofs.Written.{unplayed}
use Rattle.pol_play_kept.proofs.play.play_source.Goals as goal

pub returns-in-Ok-clause-played : goal.returns-in-Ok-clause-played
returns-in-Ok-clause-played g c start were =
    let d = g.D.Disk in
    let k = g.K.Sink in
    let P = λ (script : List ℕ). Plays d.moment d.left_since d.may_leave c.args.options start script c.args.disk.now c.play_bytes.new.disk
    (k.written c.args.sink.now) (k.written c.play_bytes.new.sink) c.play_bytes.result in
    record { script = c.in-Ok.script.items; was_left = c.in-Ok.ensures.script; holds = subst P c.as_slice.ensures.value (c.play_bytes.ensures.played start were) }

pub returns-in-Err-clause-played : goal.returns-in-Err-clause-played
returns-in-Err-clause-played g c start were =
    let d = g.D.Disk in
    let disk = c.args.disk.now in
    unplayed d.moment d.left_since d.may_leave (g.S.Source.left c.args.source.now) c.args.options start disk (g.K.Sink.written c.args.sink.now) c.in-Err.status
    (g.met.D.Disk.only_now disk) were c.in-Err.ensures.causes

pub returns-in-Err-clause-memory_stays : goal.returns-in-Err-clause-memory_stays
returns-in-Err-clause-memory_stays g c is damaged =
    let d = g.D.Disk in
    still d.seen d.may_leave d.moment d.left_since c.args.disk.now (g.met.D.Disk.only_now c.args.disk.now)
