use Rattle.std.proofs.Common.{ℕ, ◌<◌, ◌^◌, false, List, [], Err, arith, ap, subst, sym}
use Rattle.pol_kept.specs.Keeps.{options_of}
use Rattle.pol_run.specs.Run.{readings_of}
use Rattle.pol_play_kept.specs.Played.{TellsGate}
use Rattle.pol_disk.specs.MemDisk.{bytes_in}
use Rattle.pol_crash_drill.specs.Crashed.{IsCut}
use Rattle.pol_crash_drill.proofs.Ends.{ends_in_opening, ends_told, images, not_damaged}
use Rattle.pol_crash_drill.proofs.play.play_until.Goals as goal

pub returns-in_ok-told-in-Ok : goal.returns-in_ok-told-in-Ok
returns-in_ok-told-in-Ok c =
    let options = options_of c.args.config in
    let readings = readings_of c.args.script.now in
    let call = c.args.call in
    let few : c.args.call < 2 ^ 64 = omega (arith, c.ranges.call.fits) in
    let old = c.args.disk.now in
    let new = c.play_script.new.disk in
    let kept = c.in-Ok.kept in
    let told = c.in_ok-told-in-Ok.ensures in
    let were = images options call c.requires.first few readings old new c.requires.empty in
    rw (told.text, told.marked) (
    ends_told options call c.requires.first few readings old new c.requires.empty kept.text.items kept.marked kept.lost
    (c.in-Ok.ensures.whole [] were) (c.in-Ok.ensures.calls [] were) (c.in-Ok.ensures.stops_at_call [] were) told.counted
    )

pub returns-in_ok-told-in-Err-Disk : goal.returns-in_ok-told-in-Err-Disk
returns-in_ok-told-in-Err-Disk c =
    let options = options_of c.args.config in
    let readings = readings_of c.args.script.now in
    let call = c.args.call in
    let few : c.args.call < 2 ^ 64 = omega (arith, c.ranges.call.fits) in
    let old = c.args.disk.now in
    let new = c.play_script.new.disk in
    let told = c.in_ok-told-in-Err-Disk.ensures in
    let is = ap Err c.in-Err-Disk.field-0-is in
    let were = images options call c.requires.first few readings old new c.requires.empty in
    rw told.same (
    subst (λ (text : List ℕ). IsCut options call readings new.past text false) (sym c.new.ensures.items)
    (ends_in_opening options call c.requires.first few readings old new c.requires.empty (c.in-Err-Disk.ensures.stops_opening is) (c.in-Err-Disk.ensures.not_opened [] were is) told.counted)
    )

pub unreachable-requires : goal.unreachable-requires
unreachable-requires c =
    let options = options_of c.args.config in
    let old = c.args.disk.now in
    let few : c.args.call < 2 ^ 64 = omega (arith, c.ranges.call.fits) in
    not_damaged options c.args.call c.requires.first few (readings_of c.args.script.now) old c.play_script.new.disk c.requires.empty c.in-Err-Damaged.field-0-0
    (subst (TellsGate options (bytes_in old)) c.in-Err-Damaged.field-0-is c.in-Err-Damaged.ensures.damaged)
