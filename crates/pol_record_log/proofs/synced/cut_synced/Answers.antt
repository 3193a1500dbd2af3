use Rattle.std.proofs.Common.{◌∙◌}
use Rattle.pol_disk.specs.Images.{CutShort}
use Rattle.pol_disk.proofs.Calls.{cut_nothing}
use Rattle.pol_disk.proofs.Moments.{change_leaves, changes, goes_on}
use Rattle.pol_record_log.proofs.synced.cut_synced.Goals as goal

pub returns-in_err-cut-clause-any_moment : goal.returns-in_err-cut-clause-any_moment
returns-in_err-cut-clause-any_moment g c =
    let d = g.D.Disk in
    changes d.moment d.left_since d.may_leave (CutShort c.args.len) (d.seen c.args.disk.now) c.args.disk.now c.cut.new.self
    (g.met.D.Disk.only_now c.args.disk.now) (cut_nothing c.args.len (d.seen c.args.disk.now)) c.requires.settled c.cut.ensures.crash c.cut.ensures.time

pub returns-in_err-sync-clause-any_moment : goal.returns-in_err-sync-clause-any_moment
returns-in_err-sync-clause-any_moment g c =
    let d = g.D.Disk in
    let first = changes d.moment d.left_since d.may_leave (CutShort c.args.len) (d.seen c.args.disk.now) c.args.disk.now c.cut.new.self
    (g.met.D.Disk.only_now c.args.disk.now) (cut_nothing c.args.len (d.seen c.args.disk.now)) c.requires.settled c.cut.ensures.crash c.cut.ensures.time in
    goes_on d.moment d.left_since c.args.disk.now c.cut.new.self c.sync.new.self _ _ first c.sync.ensures.time
    (λ f now. change_leaves d.moment d.left_since (CutShort c.args.len) (d.seen c.args.disk.now) _ _ c.requires.settled c.cut.ensures.crash f (c.sync.ensures.crash f now))

pub returns-clause-any_moment : goal.returns-clause-any_moment
returns-clause-any_moment g c =
    let d = g.D.Disk in
    let first = changes d.moment d.left_since d.may_leave (CutShort c.args.len) (d.seen c.args.disk.now) c.args.disk.now c.cut.new.self
    (g.met.D.Disk.only_now c.args.disk.now) (cut_nothing c.args.len (d.seen c.args.disk.now)) c.requires.settled c.cut.ensures.crash c.cut.ensures.time in
    goes_on d.moment d.left_since c.args.disk.now c.cut.new.self c.sync.new.self _ _ first c.sync.ensures.time
    (λ f now. change_leaves d.moment d.left_since (CutShort c.args.len) (d.seen c.args.disk.now) _ _ c.requires.settled c.cut.ensures.crash f (c.sync.ensures.crash f now))

pub returns-clause-ok : goal.returns-clause-ok
returns-clause-ok g c =
    let read = c.in_ok-sync.ensures.same ∙ c.in_ok-cut.ensures.cut in
    record { read = read; only = λ f now. c.in_ok-sync.ensures.durable f now ∙ read }
