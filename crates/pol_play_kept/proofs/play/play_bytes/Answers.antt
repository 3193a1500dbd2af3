use Rattle.std.proofs.Common.{Err, ap, inl, subst, sym}
use Rattle.pol_model.specs.declared.options.Options.{Options}
use Rattle.pol_kept.specs.Keeps.{options_of}
use Rattle.pol_play_kept.specs.Played.{IsDamaged}
use Rattle.pol_status.specs.declared.status.Status.TheVariants as status
use Rattle.pol_play_kept.proofs.Written.{keeps_same, plays_as, written}
use Rattle.pol_play_kept.proofs.play.play_bytes.Goals as goal

pub returns-in-Ok-clause-played : goal.returns-in-Ok-clause-played
returns-in-Ok-clause-played g c =
    let d = g.D.Disk in
    let k = g.K.Sink in
    let options = options_of c.config_of-config.result in
    let script = c.args.script.now in
    let disk = c.play_script.new.disk in
    let old = k.written c.args.sink.now in
    let new = k.written c.write_text.new.sink in
    let kept = c.in-Ok.kept in
    let write = c.write_text.ensures in
    plays_as d.moment d.left_since d.may_leave options c.args.options script c.args.disk.now disk old new c.write_text.result c.config_of-config.ensures.same
    (λ start were. record {
      played = written options start script (d.may_leave disk) old new kept.text.items kept.lost kept.marked (c.in-Ok.ensures.whole start were) (c.in-Ok.ensures.stops start were)
          c.write_text.result write.end write.answered write.lost write.all write.part;
      any_moment = c.play_script.ensures.any_moment start were;
    })

pub returns-in-Err-Damaged-clause-played : goal.returns-in-Err-Damaged-clause-played
returns-in-Err-Damaged-clause-played g c =
    let d = g.D.Disk in
    let known = g.K.Sink.written c.args.sink.now in
    plays_as d.moment d.left_since d.may_leave (options_of c.config_of-config.result) c.args.options c.args.script.now c.args.disk.now c.play_script.new.disk known known status.Damaged
    c.config_of-config.ensures.same (λ start were. record { played = keeps_same known; any_moment = c.play_script.ensures.any_moment start were })

pub returns-in-Err-Memory-clause-played : goal.returns-in-Err-Memory-clause-played
returns-in-Err-Memory-clause-played g c =
    let d = g.D.Disk in
    let known = g.K.Sink.written c.args.sink.now in
    plays_as d.moment d.left_since d.may_leave (options_of c.config_of-config.result) c.args.options c.args.script.now c.args.disk.now c.play_script.new.disk known known status.Memory
    c.config_of-config.ensures.same (λ start were. record { played = keeps_same known; any_moment = c.play_script.ensures.any_moment start were })

pub returns-in-Err-Disk-clause-played : goal.returns-in-Err-Disk-clause-played
returns-in-Err-Disk-clause-played g c =
    let d = g.D.Disk in
    let known = g.K.Sink.written c.args.sink.now in
    plays_as d.moment d.left_since d.may_leave (options_of c.config_of-config.result) c.args.options c.args.script.now c.args.disk.now c.play_script.new.disk known known status.Disk
    c.config_of-config.ensures.same
    (λ start were. record {
      played = inl (record { images = c.in-Err-Disk.ensures.not_opened start were (ap Err c.in-Err-Disk.field-0-is); written = keeps_same known });
      any_moment = c.play_script.ensures.any_moment start were;
    })

pub returns-in-Err-Memory-clause-memory_stays : goal.returns-in-Err-Memory-clause-memory_stays
returns-in-Err-Memory-clause-memory_stays g c is damaged =
    c.in-Err-Memory.ensures.memory_stays (ap Err c.in-Err-Memory.field-0-is)
    (subst (λ (o : Options). IsDamaged o (g.D.Disk.seen c.args.disk.now)) (sym c.config_of-config.ensures.same) damaged)
