use Rattle.policyd_kept.proofs.Acknowledged.{of_status}
use Rattle.policyd_kept.proofs.laws.acknowledged_requests_are_there.Goals as goal

pub returns : goal.returns
returns g c options start script disk old new status usage damaged served = of_status options start script (g.D.Disk.may_leave disk) old new status usage damaged served
