use Rattle.pol_disk.proofs.Moments.{goes_on, started}
use Rattle.pol_record_log.proofs.synced.read_bytes.Goals as goal

pub returns-in_err-read-clause-any_moment : goal.returns-in_err-read-clause-any_moment
returns-in_err-read-clause-any_moment g c =
    let d = g.D.Disk in
    let P = d.may_leave c.args.disk.now in
    goes_on d.moment d.left_since c.args.disk.now c.args.disk.now c.read.new.self P _
    (started d.moment d.left_since c.args.disk.now P (g.met.D.Disk.only_now c.args.disk.now)) c.read.ensures.time c.read.ensures.crash

pub returns-clause-any_moment : goal.returns-clause-any_moment
returns-clause-any_moment g c =
    let d = g.D.Disk in
    let P = d.may_leave c.args.disk.now in
    goes_on d.moment d.left_since c.args.disk.now c.args.disk.now c.read.new.self P _
    (started d.moment d.left_since c.args.disk.now P (g.met.D.Disk.only_now c.args.disk.now)) c.read.ensures.time c.read.ensures.crash
