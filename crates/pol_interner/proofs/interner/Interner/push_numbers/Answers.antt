use Rattle.pol_interner.proofs.Shown.{numbers-tied}
use Rattle.pol_interner.proofs.interner.Interner.push_numbers.Goals as goal

pub returns : goal.returns
returns g c = rw (← c.self.view_is, numbers-tied _ c.args.first _ c.self.invariant.0) (rw c.deref.ensures.value at c.push_places.ensures)
