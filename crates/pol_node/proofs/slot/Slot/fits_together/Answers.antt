-- What is kept is the last report.
use Rattle.std.proofs.Common.{IfSome, subst}
use Rattle.pol_node.specs.Kept.{IsLastNow, KeptReport}
use Rattle.pol_node.specs.Slot.{SlotState}
use Rattle.pol_node.proofs.Keeping.{last_now}
use Rattle.pol_node.proofs.slot.Slot.fits_together.Goals as goal

pub returns : goal.returns
returns g c =
    let options = g.N.NodeName.options in
    subst (λ (s : SlotState). IfSome s.kept (λ (report : KeptReport). IsLastNow options s.pass.has.history report.endpoint report.last)) c.self.view_is
    (last_now options c.self.inside.pass.has.history c.self.inside.kept c.self.invariant)
