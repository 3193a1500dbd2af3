use Rattle.std.proofs.Common.{get_or, cond, None, Some, ◌-◌, refl, sym, ap, ◌∙◌}
use Rattle.std.proofs.lemmas.Bool.{le-leb, lt-leb}
use Rattle.pol_interner.specs.Slots.{one_less}
use Rattle.pol_interner.proofs.Shown.{changed-shown, kept-places}
use Rattle.pol_interner.proofs.TakenOut.{given-back, gone-changed}
use Rattle.pol_interner.proofs.interner.Interner.release.Goals as goal

pub invariant_of-self : goal.invariant_of-self
invariant_of-self g c =
    let taken = ap (λ xs. get_or xs c.args.place None) (sym c.deref.ensures.value) ∙ sym c.in-Some.ensures in
    kept-places _ _ _ _ c.args.place c.in-Some.held _ c.self.invariant taken refl

pub returns-in-Some : goal.returns-in-Some
returns-in-Some g c =
    let taken = ap (λ xs. get_or xs c.args.place None) (sym c.deref.ensures.value) ∙ sym c.in-Some.ensures in
    rw (← c.self.view_is) (changed-shown one_less _ _ c.args.place c.in-Some.held _ c.self.invariant.0 taken refl (λ key. ap (λ b. cond b None (Some (key, c.in-Some.held.holders - 1))) (lt-leb _ _ c.if-held-gt1.true)))

pub invariant_of-self-in-Some-2 : goal.invariant_of-self-in-Some-2
invariant_of-self-in-Some-2 g c =
    let taken = ap (λ xs. get_or xs c.args.place None) (sym c.deref.ensures.value) ∙ sym c.in-Some.ensures in
    let e = c.push.ensures in
    let back = given-back _ _ c.args.place c.in-Some.held c.self.invariant.0 taken _ _ _ _ _ _ (c.self.invariant.1, c.self.invariant.2) c.take_out.ensures.shown (rw c.unwrap.ensures at e.permutation) (rw c.unwrap.ensures at e.heap_order) e.capacity in
    (c.take_out.ensures.tied, back.0, back.1)

pub returns-in-Some-2 : goal.returns-in-Some-2
returns-in-Some-2 g c =
    let taken = ap (λ xs. get_or xs c.args.place None) (sym c.deref.ensures.value) ∙ sym c.in-Some.ensures in
    rw (← c.self.view_is)
    (c.take_out.ensures.shown ∙ gone-changed _ _ c.args.place c.in-Some.held c.self.invariant.0 taken one_less (λ key. ap (λ b. cond b None (Some (key, c.in-Some.held.holders - 1))) (le-leb _ _ c.if-held-gt1.false)))
