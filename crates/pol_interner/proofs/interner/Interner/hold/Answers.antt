use Rattle.std.proofs.Common.{get_or, None, refl, sym, ap, ◌∙◌}
use Rattle.pol_interner.specs.Slots.{one_more}
use Rattle.pol_interner.proofs.Shown.{changed-shown, kept-places}
use Rattle.pol_interner.proofs.interner.Interner.hold.Goals as goal

pub invariant_of-self : goal.invariant_of-self
invariant_of-self g c =
    let is = c.self.invariant in
    let taken = ap (λ xs. get_or xs c.args.place None) (sym c.deref.ensures.value) ∙ sym c.in-Some.ensures in
    kept-places _ _ _ _ c.args.place c.in-Some.held _ is taken refl

pub returns-in-Some-clause-ok : goal.returns-in-Some-clause-ok
returns-in-Some-clause-ok g c =
    rw (← c.self.view_is) (changed-shown one_more _ _ c.args.place c.in-Some.held _ c.self.invariant.0 (ap (λ xs. get_or xs c.args.place None) (sym c.deref.ensures.value) ∙ sym c.in-Some.ensures) refl (λ key. refl))
