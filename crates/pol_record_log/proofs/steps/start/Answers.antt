use Rattle.std.proofs.Common.{◌≤◌, length, ◌∙◌}
use Rattle.pol_disk.proofs.Moments.{widened}
use Rattle.pol_record_log.proofs.Gates.{one_byte, written_first}
use Rattle.pol_record_log.proofs.steps.start.Goals as goal

pub returns-in_err-write_synced-clause-any_moment : goal.returns-in_err-write_synced-clause-any_moment
returns-in_err-write_synced-clause-any_moment g c =
    let d = g.D.Disk in
    widened d.moment d.left_since c.args.disk.now c.write_synced.new.disk _ (λ f. length f ≤ 1) c.write_synced.ensures.any_moment
    (λ f torn. one_byte (d.seen c.args.disk.now) f c.requires.short torn)

pub returns-clause-any_moment : goal.returns-clause-any_moment
returns-clause-any_moment g c =
    let d = g.D.Disk in
    widened d.moment d.left_since c.args.disk.now c.write_synced.new.disk _ (λ f. length f ≤ 1) c.write_synced.ensures.any_moment
    (λ f torn. one_byte (d.seen c.args.disk.now) f c.requires.short torn)

pub returns-clause-ok : goal.returns-clause-ok
returns-clause-ok g c =
    let first_is = written_first (g.D.Disk.seen c.args.disk.now) c.requires.short in
    record {
      read = c.in_ok-write_synced.ensures.ok.read ∙ first_is;
      only = λ f now. c.in_ok-write_synced.ensures.ok.only f now ∙ first_is;
    }
