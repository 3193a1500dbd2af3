use Rattle.std.proofs.Common.{ℕ, List, inr, map, refl}
use Rattle.std.specs.Prelude.{string_bytes}
use Rattle.pol_kept.specs.Keeps.{HoldsStill}
use Rattle.pol_model.specs.declared.options.Options.{Options}
use Rattle.pol_model.specs.declared.request.Request.{Request}
use Rattle.pol_play_kept.specs.Images.{AllAre, OfScript}
use Rattle.pol_play_kept.specs.Played.{IsDamaged, Plays}
use Rattle.pol_play_kept.specs.Words.{plays_with}
use Rattle.pol_status.specs.declared.status.Status.TheVariants as status
use Rattle.pol_play_kept.proofs.Kept.{still}
use Rattle.pol_play_kept.proofs.Written.{if_any, unplayed}
use Rattle.pol_play_kept.proofs.play.play_kept.Goals as goal

pub returns-in-Err-Memory-clause-played : goal.returns-in-Err-Memory-clause-played
returns-in-Err-Memory-clause-played g c =
    let d = g.D.Disk in
    let disk = c.args.disk.now in
    let known = g.K.Sink.written c.args.sink.now in
    let left = g.S.Source.left c.args.source.now in
    if_any (plays_with (map string_bytes c.args.words.now))
    (λ (options : Options). (start : List Request) → AllAre options start (d.may_leave disk)
    → OfScript left (λ (script : List ℕ). Plays d.moment d.left_since d.may_leave options start script disk disk known known status.Memory))
    (λ options start were. unplayed d.moment d.left_since d.may_leave left options start disk known status.Memory (g.met.D.Disk.only_now disk) were (inr (inr refl)))

pub returns-in-Err-Memory-clause-memory_stays : goal.returns-in-Err-Memory-clause-memory_stays
returns-in-Err-Memory-clause-memory_stays g c is =
    let d = g.D.Disk in
    let disk = c.args.disk.now in
    if_any (plays_with (map string_bytes c.args.words.now))
    (λ (options : Options). IsDamaged options (d.seen disk) → HoldsStill d.seen d.may_leave d.moment d.left_since disk disk)
    (λ options damaged. still d.seen d.may_leave d.moment d.left_since disk (g.met.D.Disk.only_now disk))
