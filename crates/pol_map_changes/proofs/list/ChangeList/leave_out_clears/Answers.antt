use Rattle.std.proofs.Common.{sym, ap, subst, ◌∙◌}
use Rattle.pol_map_changes.specs.Changes.{AreFew, IsAscending, changed}
use Rattle.pol_map_changes.proofs.LeavingOut.{left_ascends, left_few, left_leads}
use Rattle.pol_map_changes.proofs.list.ChangeList.leave_out_clears.Goals as goal

pub invariant_of-self : goal.invariant_of-self
invariant_of-self c = subst IsAscending (sym c.leave_out.ensures) (left_ascends c.args.base.now c.self.inside.changes.items c.self.invariant)

pub returns-clause-leads : goal.returns-clause-leads
returns-clause-leads c = λ table only.
    ap (λ cs. changed cs table) c.leave_out.ensures
    ∙ left_leads c.args.base.now table only c.self.inside.changes.items c.self.invariant
    ∙ ap (λ cs. changed cs table) c.self.view_is

pub returns-clause-few : goal.returns-clause-few
returns-clause-few c =
    subst (AreFew c.args.base.now) (sym c.leave_out.ensures)
    (left_few c.args.base.now c.fits_together.ensures.ascending c.self.inside.changes.items c.self.invariant)

pub returns-clause-ascending : goal.returns-clause-ascending
returns-clause-ascending c = subst IsAscending (sym c.leave_out.ensures) (left_ascends c.args.base.now c.self.inside.changes.items c.self.invariant)
