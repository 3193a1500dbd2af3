-- The slot is seen as its pass and what is kept of reports.
use Rattle.std.proofs.Common.{IfErr, subst}
use Rattle.pol_node.specs.Kept.{NotRegenerated}
use Rattle.pol_node.specs.Slot.{SlotState}
use Rattle.pol_node.proofs.slot.Slot.turn.Goals as goal

pub returns-clause-cause : goal.returns-clause-cause
returns-clause-cause g c =
    subst (λ (s : SlotState). IfErr c.regenerate_kept.result
    (NotRegenerated g.N.NodeName.options c.regenerate_kept.new.pass.has.history c.args.number s.kept)) c.self.view_is c.regenerate_kept.ensures.cause
