-- The slot is seen as its pass and what is kept of reports.
use Rattle.std.proofs.Common.{rules, Bool, IfErr, option_map, sym, subst}
use Rattle.pol_node.specs.Finish.{Regenerates}
use Rattle.pol_node.specs.Kept.{NotRegenerated, report_in}
use Rattle.pol_node.specs.KeptAfter.{KeepsUnlessGone}
use Rattle.pol_node.specs.Slot.{SlotState}
use Rattle.pol_node.proofs.slot.Slot.regenerate_over.Goals as goal

pub returns-clause-regen : goal.returns-clause-regen
returns-clause-regen g c =
    subst (λ (s : SlotState). Regenerates g.N.NodeName.options c.args.number s.pass.has.history c.regenerate_kept.new.pass.has.history c.in_ok-done.done.regen)
    c.self.view_is c.in_ok-done.ensures.regen

pub returns-in_err-done-clause-cause : goal.returns-in_err-done-clause-cause
returns-in_err-done-clause-cause g c =
    let options = g.N.NodeName.options in
    let new = c.regenerate_kept.new.pass.has.history in
    let told : IfErr c.from_residual.result (NotRegenerated options new c.args.number (option_map report_in c.self.inside.kept)) = search rules in
    subst (λ (s : SlotState). IfErr c.from_residual.result (NotRegenerated options new c.args.number s.kept)) c.self.view_is told

pub returns-clause-kept : goal.returns-clause-kept
returns-clause-kept g c =
    subst (λ (gone : Bool). KeepsUnlessGone g.N.NodeName.options c.regenerate_kept.new.pass.has.history c.args.number
    (option_map report_in c.regenerate_kept.new.kept) gone) (sym c.in_ok-done.ensures.agree) c.in_ok-done.ensures.kept
