use Rattle.std.proofs.Common.{◌∙◌}
use Rattle.pol_disk.proofs.Moments.{goes_on, started}
use Rattle.pol_record_log.proofs.synced.sync.Goals as goal

pub returns-in_err-sync-clause-any_moment : goal.returns-in_err-sync-clause-any_moment
returns-in_err-sync-clause-any_moment g c =
    let d = g.D.Disk in
    let P = d.may_leave c.args.disk.now in
    goes_on d.moment d.left_since c.args.disk.now c.args.disk.now c.sync.new.self P _
    (started d.moment d.left_since c.args.disk.now P (g.met.D.Disk.only_now c.args.disk.now)) c.sync.ensures.time c.sync.ensures.crash

pub returns-clause-any_moment : goal.returns-clause-any_moment
returns-clause-any_moment g c =
    let d = g.D.Disk in
    let P = d.may_leave c.args.disk.now in
    goes_on d.moment d.left_since c.args.disk.now c.args.disk.now c.sync.new.self P _
    (started d.moment d.left_since c.args.disk.now P (g.met.D.Disk.only_now c.args.disk.now)) c.sync.ensures.time c.sync.ensures.crash

pub returns-clause-ok : goal.returns-clause-ok
returns-clause-ok g c = record {
  read = c.in_ok-sync.ensures.same;
  only = λ f now. c.in_ok-sync.ensures.durable f now ∙ c.in_ok-sync.ensures.same;
}
